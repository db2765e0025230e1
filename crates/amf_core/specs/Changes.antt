-- What an AMF and its home network keep, and what a step changed of it.
use Rattle.std.specs.Prelude.{ℕ, List, [], Option, Some, None}
use Rattle.milenage.specs.Home.{HomeRecord}
use Rattle.amf_core.specs.Keyed.{all_current}
use Rattle.amf_core.specs.State.{AmfState, is_same_link, is_same_subscriber}
use Rattle.amf_core.specs.declared.link.Link.{Link}
use Rattle.amf_core.specs.declared.subscriber.Record.{Record}

-- the AMF, and the home network
pub record CoreState : Type 0 where
  pub amf : AmfState
  pub home : List HomeRecord

-- the records that changed, the newest first, the next 5G-TMSI, and the home network, if it changed
pub record ChangeLists : Type 0 where
  pub subscribers : List Record
  pub links : List Link
  pub tmsi : ℕ
  pub home : Option (List HomeRecord)

-- no change yet
abbrev pub unchanged : AmfState → ChangeLists
unchanged a = record { subscribers = []; links = []; tmsi = a.tmsi; home = None }

-- what is kept with the changes
abbrev pub changed : ChangeLists → AmfState → AmfState
changed c a = record {
  config = a.config;
  tmsi = c.tmsi;
  subscribers = all_current is_same_subscriber c.subscribers a.subscribers;
  links = all_current is_same_link c.links a.links;
}

abbrev pub home_now : Option (List HomeRecord) → List HomeRecord → List HomeRecord
home_now None before = before
home_now (Some after) before = after
