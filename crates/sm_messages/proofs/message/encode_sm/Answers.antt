-- All pieces are written.
use Rattle.std.proofs.Common.{◌∙◌, ◌++◌, ap, arith}
use Rattle.nas_base.specs.Kinds.{sm_type}
use Rattle.nas_base.specs.declared.sm_kind.SmKind.{SmKind}
use Rattle.nas_layout.proofs.TellingLaws.{written_behind}
use Rattle.sm_messages.specs.KindOf.{kind_of}
use Rattle.sm_messages.specs.Messages.{pieces_of}
use Rattle.sm_messages.specs.Parts.{head}
use Rattle.sm_messages.proofs.message.encode_sm.Goals as goal

pub returns : goal.returns
returns c =
    let frame = c.args.value.now in
    let begun = c.in_ok-write_head.ensures.1 ∙ ap (λ (k : SmKind). c.args.out.now ++ head frame.psi frame.pti (sm_type k)) c.kind_of.ensures in
    written_behind (head frame.psi frame.pti (sm_type (kind_of frame.body))) c.args.out.now c.write_head.new.out c.tell.new.to (pieces_of frame.body) c.tell.result
    begun (omega (arith, c.in_ok-fits.ensures, c.size_of.ensures.value)) c.tell.ensures
