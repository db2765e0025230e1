-- What is done with a 5GMM message in each state.
use Rattle.std.specs.Prelude.{Bool, true, false}
use Rattle.nas_base.specs.declared.mm_kind.MmKind.{MmKind}
use Rattle.nas_base.specs.declared.mm_kind.MmKind.TheVariants.{RegistrationRequest, RegistrationAccept, RegistrationComplete, RegistrationReject, DeregistrationRequestUeOriginating, DeregistrationAcceptUeOriginating, DeregistrationRequestUeTerminated, DeregistrationAcceptUeTerminated, ServiceRequest, ServiceReject, ServiceAccept, ConfigurationUpdateCommand, ConfigurationUpdateComplete, AuthenticationRequest, AuthenticationResponse, AuthenticationReject, AuthenticationFailure, IdentityRequest, IdentityResponse, SecurityModeCommand, SecurityModeComplete, SecurityModeReject, FiveGmmStatus, UlNasTransport, DlNasTransport}
use Rattle.nas_base.specs.declared.state_words.AmfWord.{AmfWord}
use Rattle.nas_base.specs.declared.state_words.AmfWord.TheVariants as amf
use Rattle.nas_base.specs.declared.state_words.MmWord.{MmWord}
use Rattle.nas_base.specs.declared.state_words.MmWord.TheVariants as ue
use Rattle.collision_rules.specs.declared.action.Action.{Action}
use Rattle.collision_rules.specs.declared.action.Action.TheVariants.{Take, Discard, Status98}

-- the cells: taken, answered with STATUS 98 (clause 7.4), discarded
abbrev pub T : Action
T = Take

abbrev pub S : Action
S = Status98

abbrev pub D : Action
D = Discard

-- A row at a handset: its cells are those of Registering from Deregistered, Registering from Registered, Registered, Serving and
-- Deregistering. In Deregistered, where a handset is idle, every kind is discarded.
abbrev pub row : Action → Action → Action → Action → Action → MmWord → Action
row new again registered serving deregistering ue.Deregistered = D
row new again registered serving deregistering ue.RegisteringNew = new
row new again registered serving deregistering ue.RegisteringAgain = again
row new again registered serving deregistering ue.Registered = registered
row new again registered serving deregistering ue.Serving = serving
row new again registered serving deregistering ue.Deregistering = deregistering

-- at a handset (TS 24.501 clauses 5.4.1 to 5.4.5, 5.5.1, 5.5.2, 5.6.1 and 7.4)
abbrev pub handset_row : MmKind → MmWord → Action
handset_row AuthenticationRequest = row T T T T D
handset_row AuthenticationReject = row T T T T D
handset_row SecurityModeCommand = row T T T T D
handset_row IdentityRequest = row T T T T D
handset_row RegistrationAccept = row T T T T D
handset_row RegistrationReject = row T T S S D
handset_row ServiceAccept = row S S S T D
handset_row ServiceReject = row S S S T D
handset_row DeregistrationRequestUeTerminated = row D T T T T
handset_row DeregistrationAcceptUeOriginating = row S S S S T
handset_row ConfigurationUpdateCommand = row S D T T D
handset_row DlNasTransport = row S T T T D
handset_row FiveGmmStatus = row D D D D D
handset_row _ = row S S S S D

abbrev pub collide_mm : MmWord → MmKind → Action
collide_mm state kind = handset_row kind state

-- A row at the AMF: its cells are those of a subscriber that is registered, of one that isn't, and of one in Deregistering.
abbrev pub amf_row : Action → Action → Action → AmfWord → Bool → Action
amf_row registered other deregistering amf.Deregistering marked = deregistering
amf_row registered other deregistering _ true = registered
amf_row registered other deregistering _ false = other

-- at the AMF (TS 24.501 clauses 5.4.1 to 5.4.5, 5.5.1, 5.5.2, 5.6.1 and 7.4); SERVICE REQUEST is one that passed
abbrev pub network_row : MmKind → AmfWord → Bool → Action
network_row RegistrationRequest = amf_row T T T
network_row DeregistrationRequestUeOriginating = amf_row T T T
network_row ServiceRequest = amf_row T T D
network_row UlNasTransport = amf_row T S D
network_row RegistrationComplete = amf_row T T T
network_row AuthenticationResponse = amf_row T T T
network_row AuthenticationFailure = amf_row T T T
network_row SecurityModeComplete = amf_row T T T
network_row SecurityModeReject = amf_row T T T
network_row IdentityResponse = amf_row T T T
network_row DeregistrationAcceptUeTerminated = amf_row T T T
network_row ConfigurationUpdateComplete = amf_row T T T
network_row FiveGmmStatus = amf_row D D D
network_row _ = amf_row S S S

abbrev pub collide_amf : AmfWord → Bool → MmKind → Action
collide_amf state registered kind = network_row kind state registered
