-- The longer words, from their bytes.
use Rattle.std.proofs.Common.{◌≡◌, codes, arith, rules}
use Rattle.std.proofs.lemmas.Slice.Eq.{text_from_reads}
use Rattle.words.proofs.word_of.Goals as goal

pub returns-in-strict : goal.returns-in-strict
returns-in-strict c =
    let e : c.args.s.now ≡ codes "strict" = text_from_reads c.args.s.now (codes "strict") (omega arith) (search rules) in rw e

pub returns-in-status : goal.returns-in-status
returns-in-status c =
    let e : c.args.s.now ≡ codes "status" = text_from_reads c.args.s.now (codes "status") (omega arith) (search rules) in rw e
