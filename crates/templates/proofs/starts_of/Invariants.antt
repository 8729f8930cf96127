-- `templates::starts_of` meets its contract.
use Prim.Native.Nat.{◌≤◌}
use mathlib.Core.Path.{◌≡◌}
use lib.ListN.{length, take}
use Rattle.templates.specs.Templates.{template_of, starts_of}
use Rattle.templates.proofs.starts_of.Given as goal

abbrev pub invariant-loop-start : goal.invariant-loop-start
invariant-loop-start l = record {
  long : length l.start-items ≡ 32;
  inside : length l.t ≤ length l.table;
  here : l.t ≡ template_of l.table l.start-index;
  before : take l.start-index l.start-items ≡ starts_of l.table l.start-index;
}
