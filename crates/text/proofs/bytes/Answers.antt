-- The bytes stand in the middle of the buffer.
use Rattle.std.proofs.Common.{refl, sym, ◌∙◌, ap, ◌+◌, ◌-◌, ◌++◌, ℕ, List, length, take, drop, arith}
use Rattle.std.proofs.lemmas.Slice.{put_mid-paste}
use lib.Seq.{sets-eq, take_all}
use Rattle.text.proofs.Laws.{puts-fits}
use Rattle.text.proofs.bytes.Goals as goal

pub returns : goal.returns
returns c =
    let room = c.has_room.ensures.0 c.if-not-has_room.false in
    let t = c.args.text.now in
    let b = c.args.out.now in
    let at = c.args.at in
    puts-fits room
    (record {
      bytes =
          put_mid-paste at (at + length t - at) b _ t (length t) c.copy_from_slice.ensures.after (omega arith) refl
          ∙ ap (λ (l : List ℕ). take at b ++ l ++ drop (at + length t) b) (take_all (length t) t (omega arith))
          ∙ sym (sets-eq t b at room);
      next = refl;
      inside = room;
    })
