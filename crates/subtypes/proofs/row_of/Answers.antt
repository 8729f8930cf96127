-- `subtypes::row_of` meets its contract: the search's key is a row's number.
use mathlib.Core.Path.{◌∙◌}
use borrow.Author.Rules.{rules}
use Rattle.std.proofs.lemmas.List.Sorted.{answers_always}
use Rattle.format.specs.Layout.{be}
use Rattle.subtypes.proofs.Ascending.{row-searched}
use Rattle.subtypes.proofs.row_of.Goals as goal

pub returns : goal.returns
returns c =
    let facts = c.binary_search_by_key.ensures in
    let by_key = facts.position be (answers_always _ _ _ (λ f a r g called. search rules)) in
    c.ok.ensures.value ∙ row-searched _ c.args.v c.binary_search_by_key.result c.rows.ensures facts.bound by_key
