-- `templates::value` meets its contract.
use mathlib.Core.Path.{sym, ap, ◌∙◌}
use Rattle.text.proofs.Laws.{wrote_as}
use Rattle.templates.specs.Templates.{comma, closing, until, from, past}
use Rattle.templates.proofs.Laws.{letter-value, letter-behind, name-value, name-behind}
use Rattle.templates.proofs.value.Goals as goal

pub returns-then-is_letter-clause-rest : goal.returns-then-is_letter-clause-rest
returns-then-is_letter-clause-rest c = c.skip.ensures ∙ sym (letter-behind c.args.p.now c.args.v (sym c.is_letter.ensures.letter ∙ c.if-is_letter.true))

pub returns-then-is_letter-clause-wrote : goal.returns-then-is_letter-clause-wrote
returns-then-is_letter-clause-wrote c = wrote_as (letter-value c.args.p.now c.args.v (sym c.is_letter.ensures.letter ∙ c.if-is_letter.true)) c.letter.ensures.wrote

pub returns-clause-rest : goal.returns-clause-rest
returns-clause-rest c =
    c.behind.ensures.rest ∙ ap (past closing) (c.split.ensures.parts.1 ∙ ap (from comma) c.named.ensures.name)
    ∙ sym (name-behind c.args.p.now c.args.v (sym c.is_letter.ensures.letter ∙ c.if-is_letter.false))

pub returns-clause-wrote : goal.returns-clause-wrote
returns-clause-wrote c =
    wrote_as (name-value c.args.p.now c.args.v (sym c.is_letter.ensures.letter ∙ c.if-is_letter.false) ∙ sym (c.split.ensures.parts.0 ∙ ap (until comma) c.named.ensures.name)) c.copied.ensures
