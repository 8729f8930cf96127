-- `play::fetch` and `play::try_window`, which call each other, meet their contracts.
use mathlib.Core.Path.{sym, ap, ◌∙◌}
use native.Mathlib.Omega.{arith}
use lib.ListN.{length}
use Rattle.stream.specs.declared.Step.{Step}
use Rattle.stream_laws.proofs.Calls.{room-ready}
use Rattle.play.specs.Play.{Out}
use Rattle.play.proofs.Handed.{handed-on, portion}
use Rattle.play.proofs.Laws.{try-halts, try-goes, room-halts, told-halts, told-goes, brings}
use Rattle.play.proofs.+fetch_try_window.Goals as goal

pub fetch-returns-in_default : goal.fetch-returns-in_default
fetch-returns-in_default t c =
    let a = c.args in
    let m = c.make_room_of-room in
    let e = room-halts a.tape.reading a.tape.src.now a.tape.width a.s a.buf.now a.at m.result m.new.buf m.ensures.value m.ensures.buf_after c.in_default.not-Ready in
    record { value = c.ending.ensures ∙ ap (λ (o : Out). o.played) e; buf_after = ap (λ (o : Out). o.buffer) e }

pub fetch-slice_bounds-fill-count : goal.fetch-slice_bounds-fill-count
fetch-slice_bounds-fill-count t c =
    let m = c.make_room_of-room in
    let h = room-ready c.args.s (length c.args.buf.now) (ap (λ (x : Step). x.answer) (sym m.ensures.value) ∙ c.in-Ready.is) in
    let g = ap (λ (x : Step). x.state.end) m.ensures.value in
    omega (arith, m.auto.buf)

pub fetch-slice_bounds-fill-start : goal.fetch-slice_bounds-fill-start
fetch-slice_bounds-fill-start t c =
    let m = c.make_room_of-room in
    let h = room-ready c.args.s (length c.args.buf.now) (ap (λ (x : Step). x.answer) (sym m.ensures.value) ∙ c.in-Ready.is) in
    let g = ap (λ (x : Step). x.state.end) m.ensures.value in
    omega (arith, m.auto.buf)

pub fetch-returns-in_default-answer : goal.fetch-returns-in_default-answer
fetch-returns-in_default-answer t c =
    let a = c.args in
    let m = c.make_room_of-room in
    let f = c.fill-n in
    let p = portion m.new.buf a.tape.src.now m.result.state.end a.at a.tape.width f.result f.ensures.value in
    let b = handed-on m.new.buf a.tape.src.now f.new.free m.result.state.end a.at f.result f.ensures.free_after in
    let e = told-halts a.tape.reading a.tape.src.now a.tape.width a.s a.buf.now a.at m.result m.new.buf m.ensures.value m.ensures.buf_after c.in-Ready.is
    f.result _ c.told_of-told.result p b c.told_of-told.ensures c.in_default-answer.not-Ready in
    record { value = c.ending-in_default-answer.ensures ∙ ap (λ (o : Out). o.played) e; buf_after = ap (λ (o : Out). o.buffer) e }

pub fetch-try_window-requires : goal.fetch-try_window-requires
fetch-try_window-requires t c =
    let a = c.args in
    let m = c.make_room_of-room in
    let f = c.fill-n in
    let p = portion m.new.buf a.tape.src.now m.result.state.end a.at a.tape.width f.result f.ensures.value in
    let b = handed-on m.new.buf a.tape.src.now f.new.free m.result.state.end a.at f.result f.ensures.free_after in
    let h = brings a.tape.reading a.tape.src.now a.tape.width a.s a.buf.now a.at m.result m.new.buf m.ensures.value m.ensures.buf_after c.in-Ready.is
    f.result _ c.told_of-told.result p b c.told_of-told.ensures c.in-Ready-answer.is in
    (omega (arith, p), omega (arith, p))

pub fetch-returns : goal.fetch-returns
fetch-returns t c =
    let a = c.args in
    let m = c.make_room_of-room in
    let f = c.fill-n in
    let p = portion m.new.buf a.tape.src.now m.result.state.end a.at a.tape.width f.result f.ensures.value in
    let b = handed-on m.new.buf a.tape.src.now f.new.free m.result.state.end a.at f.result f.ensures.free_after in
    let e = told-goes a.tape.reading a.tape.src.now a.tape.width a.s a.buf.now a.at m.result m.new.buf m.ensures.value m.ensures.buf_after c.in-Ready.is
    f.result _ c.told_of-told.result p b c.told_of-told.ensures c.requires c.in-Ready-answer.is in
    record { value = c.try_window.ensures.value ∙ ap (λ (o : Out). o.played) e; buf_after = c.try_window.ensures.buf_after ∙ ap (λ (o : Out). o.buffer) e }

pub try_window-returns-in_default : goal.try_window-returns-in_default
try_window-returns-in_default t c =
    let a = c.args in
    let n = c.next_of-tried in
    let e = try-halts a.tape.reading a.tape.src.now a.tape.width a.s a.buf.now a.at n.result n.ensures c.in_default.not-Wants in
    record { value = c.ending.ensures ∙ ap (λ (o : Out). o.played) e; buf_after = ap (λ (o : Out). o.buffer) e }

pub try_window-returns : goal.try_window-returns
try_window-returns t c =
    let a = c.args in
    let n = c.next_of-tried in
    let e = try-goes a.tape.reading a.tape.src.now a.tape.width a.s a.buf.now a.at n.result n.ensures c.in-Wants.is in
    record { value = c.fetch.ensures.value ∙ ap (λ (o : Out). o.played) e; buf_after = c.fetch.ensures.buf_after ∙ ap (λ (o : Out). o.buffer) e }
