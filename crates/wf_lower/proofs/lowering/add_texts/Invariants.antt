use Rattle.std.proofs.Common.{List, drop}
use Rattle.c_text.specs.CTree.{ItemTree}
use Rattle.wf_lower.specs.Made.{AreRead}
use Rattle.wf_lower.specs.Unit.{used_texts}
use Rattle.wf_lower.proofs.Texts.{Added}
use Rattle.wf_lower.proofs.lowering.add_texts.Given as goal

-- The statuses so far were added where they are used, and with those that are left they are all.
abbrev pub invariant-loop-n : goal.invariant-loop-n
invariant-loop-n l =
    (functions : List ItemTree) → AreRead functions l.fn.u.names l.read → Added l.fn.u l.u (used_texts functions l.n (drop l.n l.p.t.now.statuses)) (used_texts functions 0 l.p.t.now.statuses)
