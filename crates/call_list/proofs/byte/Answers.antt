-- `call_list::byte` meets its contract.
use mathlib.Core.Path.{sym, ◌∙◌}
use Rattle.call_list.proofs.Laws.{byte_before, byte-explicit, byte-behind}
use Rattle.call_list.proofs.byte.Goals as goal

pub returns-then-i-place : goal.returns-then-i-place
returns-then-i-place c = c.fill_byte.ensures ∙ sym (byte_before c.args.fill c.args.place c.args.explicit.now c.args.i c.if-i-place.true)

pub returns-in-Some : goal.returns-in-Some
returns-in-Some c =
    let h = c.in-Some.ensures.lookup in
    h.3.1 0 ∙ sym (byte-explicit c.args.fill c.args.place c.args.explicit.now c.args.i c.if-i-place.false h.3.0)

pub returns-in-None : goal.returns-in-None
returns-in-None c =
    let h = c.in-None.ensures.lookup in
    c.fill_byte-in-None.ensures ∙ sym (byte-behind c.args.fill c.args.place c.args.explicit.now c.args.i c.if-i-place.false h.3)
