-- `pen::is_text` meets its contract.
use Rattle.std.proofs.Common.{◌∙◌}
use Rattle.pen.proofs.Texts.{text-told, eight_at_most}
use Rattle.pen.proofs.is_text.Goals as goal

pub returns : goal.returns
returns g c =
    c.is_ok.ensures.value
    ∙ text-told g.T.Number.WIDTH (g.T.Number.value c.args.v) _ g.T.Number.value c.text_at.result (eight_at_most g.met.T.Number.width) (rw c.set.ensures.buf_after at c.text_at.ensures)
