-- What the network's QoS operations make of a session's rules (TS 24.501 clauses 6.3.2.3, 6.3.2.4 and 6.4.1.3).
use Rattle.std.specs.Prelude.{ℕ, List, Result, Ok, Err}
use Rattle.nas_base.specs.declared.sm_cause.TheConstants as cause
use Rattle.nas_qos.specs.Applying.{all_applied}
use Rattle.nas_qos.specs.Operations.{Operation, ops_in}
use Rattle.nas_qos.specs.Rules.{QosRule}
use Rattle.nas_qos.specs.declared.refusals.QosFault.{QosFault}

-- a semantic error, or too many rules, is cause 83
abbrev pub applied : Result (List QosRule) QosFault → Result (List QosRule) ℕ
applied (Ok rules) = Ok rules
applied (Err fault) = Err cause.SEMANTIC_ERROR_IN_THE_QOS_OPERATION

-- a syntactical error is cause 84
abbrev pub applied_read : Result (List Operation) ℕ → List QosRule → Result (List QosRule) ℕ
applied_read (Ok ops) rules = applied (all_applied ops rules)
applied_read (Err at) rules = Err cause.SYNTACTICAL_ERROR_IN_THE_QOS_OPERATION

-- the operations that octets are, on rules
abbrev pub ruled : List ℕ → List QosRule → Result (List QosRule) ℕ
ruled octets rules = applied_read (ops_in octets) rules
