-- Frames and struct states stay as they are made while bodies run.
use Rattle.std.proofs.Common.{◌≡◌, ℕ, ◌≤◌, List, length, map, All, refl, sym, ap, ◌∙◌, subst, arith}
use Rattle.std.specs.Prelude.{take}
use Rattle.wf_ast.specs.declared.typed_nodes.TypedNodes.{TypedNodes}
use Rattle.wf_mean_exprs.specs.declared.objects.Frame.{Frame}
use Rattle.wf_mean_stmts.specs.declared.stage.Stage.{Stage}
use Rattle.wf_mean_stmts.specs.Stages.{Shape, shape, kept_lengths}
use Rattle.wf_mean_runs.specs.Frames.{AreReady, Stays, local_counts, sizes_for, sizes_of}

-- Where a stage alone changes.
pub stays_shaped : (below : List Frame) (old new : Stage) → shape new ≡ shape old → new.turns ≤ old.turns → Stays below below old new
stays_shaped below old new same fewer = record { count = refl; frames = refl; shape = same; fewer = fewer }

pub stays_on : (a b c : List Frame) (x y z : Stage) → Stays a b x y → Stays b c y z → Stays a c x z
stays_on a b c x y z h k = record { count = k.count ∙ h.count; frames = k.frames ∙ h.frames; shape = k.shape ∙ h.shape; fewer = omega (arith, h.fewer, k.fewer) }

pub ready_after : (nodes : TypedNodes) (a b : List Frame) (x y : Stage) → AreReady nodes a x → Stays a b x y → AreReady nodes b y
ready_after nodes a b x y ready h =
    let P : ℕ → Type 0 = λ n. map sizes_of b ≡ map (sizes_for nodes) (take n nodes.order) in
    let L : ℕ → Type 0 = λ n. n ≤ length nodes.order in
    let K : List (List ℕ) → Type 0 = λ ks. All (λ counts. counts ≡ local_counts nodes) ks in
    let kept : map kept_lengths y.objects.items ≡ map kept_lengths x.objects.items = ap (λ (s : Shape). s.kept) h.shape in
    record { frames = subst P (sym h.count) (h.frames ∙ ready.frames); level = subst L (sym h.count) ready.level; kept = subst K (sym kept) ready.kept }
