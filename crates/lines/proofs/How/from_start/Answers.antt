-- All frames of the block are told, or there is no room for another.
use Rattle.std.proofs.Common.{arith}
use Rattle.reader.specs.Window.{window_of}
use Rattle.text.proofs.Laws.{wrote-long}
use Rattle.lines.proofs.Turns.{part-all}
use Rattle.lines.proofs.Told.{frames-far}
use Rattle.lines.proofs.Along.{along-full, along-end, gone-along}
use Rattle.lines.proofs.How.from_start.Goals as goal

pub told_frames-g-requires : goal.told_frames-g-requires
told_frames-g-requires c = let p = c.requires in record { begun = p.0; fits = p.3; inside = p.1; wide = p.2 }

pub returns-then-g : goal.returns-then-g
returns-then-g c =
    let p = c.requires in
    let n = c.args.counts in
    let G = c.told_frames-g.ensures in
    let A = gone-along _ (window_of _) _ _ _ _ _ _ _ _ p.0 p.1 p.3 n.two n.counted _ _ G in
    let f = G.full c.if-g.true in
    rw c.start.ensures (along-full _ (window_of _) _ _ _ _ _ _ _ _ _ _ _ _ A f.0 (omega (arith, f.1, wrote-long G.text, G.text.inside)))

pub returns : goal.returns
returns c =
    let p = c.requires in
    let n = c.args.counts in
    let told = c.told_frames-g in
    let G = told.ensures in
    let A = gone-along _ (window_of _) _ _ _ _ _ _ _ _ p.0 p.1 p.3 n.two n.counted _ _ G in
    let f = G.cut c.if-g.false in
    rw
    (c.cut.ensures, part-all c.args.block.now told.result.at)
    (along-end _ (window_of _) _ _ _ _ _ _ _ _ _ _ _ _ A (frames-far _ (window_of _) _ _ p.0 G.run).1 f.0 (λ l. omega (arith, f.1 l, wrote-long G.text)))
