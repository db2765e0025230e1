-- All pieces are written.
use Rattle.std.proofs.Common.{◌∙◌, ◌++◌, ap, arith}
use Rattle.nas_base.specs.Kinds.{mm_type}
use Rattle.nas_base.specs.declared.mm_kind.MmKind.{MmKind}
use Rattle.nas_layout.proofs.TellingLaws.{written_behind}
use Rattle.mm_messages.specs.KindOf.{kind_of}
use Rattle.mm_messages.specs.Messages.{pieces_of}
use Rattle.mm_messages.specs.Parts.{head}
use Rattle.mm_messages.proofs.message.encode_mm.Goals as goal

pub returns : goal.returns
returns c =
    let begun = c.in_ok-write_head.ensures.1 ∙ ap (λ (k : MmKind). c.args.out.now ++ head (mm_type k)) c.kind_of.ensures in
    written_behind (head (mm_type (kind_of c.args.value.now))) c.args.out.now c.write_head.new.out c.tell.new.to (pieces_of c.args.value.now) c.tell.result
    begun (omega (arith, c.in_ok-fits.ensures, c.size_of.ensures.value)) c.tell.ensures
