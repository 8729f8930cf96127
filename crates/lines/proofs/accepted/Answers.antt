-- `lines::accepted` meets its contract.
use mathlib.Core.Path.{◌∙◌}
use native.Mathlib.Omega.{arith}
use lib.ListN.{length-set}
use Rattle.text.proofs.Laws.{decimal-two, wrote_as, wrote-byte, wrote-append, wrote-long}
use Rattle.lines.specs.Lines.{accepted_of}
use Rattle.lines.proofs.accepted.Goals as goal

pub shape_of-out : goal.shape_of-out
shape_of-out c = rw length-set (wrote-long c.two-b.ensures ∙ wrote-long c.ok_tag-a.ensures)

pub returns : goal.returns
unfolding accepted_of
returns c =
    let p = wrote_as (decimal-two c.args.size c.requires.0 c.requires.1) c.two-b.ensures in
    wrote-append c.ok_tag-a.ensures (wrote-append p (wrote-byte 10 _ _ (omega (arith, p.inside))))
