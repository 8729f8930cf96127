-- `lines::digits::Digits::four` meets its contract.
use Rattle.text.specs.Decimal.{four_of}
use Rattle.text.proofs.Laws.{wrote-append}
use Rattle.lines.proofs.digits.Digits.four.Goals as goal

pub returns : goal.returns
unfolding four_of
returns c = wrote-append c.two-k.ensures c.two.ensures
