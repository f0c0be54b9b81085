-- An accepted package is never stuck: its methods have an order, and in whatever order they stand, it keeps the rules that
-- soundness asks for.
use Rattle.std.proofs.Common.{◌≡◌, ℕ, List, [], None, ◌∙◌}
use Rattle.wf_text.specs.Precedence.{Decides}
use Rattle.wf_ast.specs.ReadPackage.{decls_of}
use Rattle.wf_types_rules.specs.TypeRules.{Breaks}
use Rattle.wf_bounds_laws.specs.BoundsRules.{bounds_refusal}
use Rattle.wf_bounds_laws.proofs.AnyOrder.{bounds_ignore_order}
use Rattle.wf_names_verdicts.proofs.KeptOrders.{kept-have-orders}
use Rattle.wf_sound_laws.proofs.SoundPackages.{read-never-stuck}
use Rattle.wf_tool.specs.Soundness.{in_order, HasSomeOrder, RunsInOrder, NeverStuck, AcceptedAreNeverStuck}
use Rattle.wf_tool.specs.Verdict.{resolved, IsAccepted}
use Rattle.wf_tool.proofs.OrderLemmas.{any-order}

runs-in-order : (name : List ℕ) (files : List (List ℕ)) (methods : ℕ) (accepted : IsAccepted name files methods) → RunsInOrder accepted.read
runs-in-order name files methods accepted order struct_order ordered =
    let read = accepted.read in
    let types : Decides (Breaks (in_order read order struct_order)) None = λ refusal breaks. accepted.types refusal (any-order read.name read.texts (decls_of read) order struct_order [] [] refusal breaks) in
    let bounds : bounds_refusal (in_order read order struct_order) ≡ None = bounds_ignore_order (resolved read) order struct_order ∙ accepted.bounds in
    read-never-stuck name files read accepted.parsed accepted.names order struct_order ordered types bounds

pub accepted-runs : (name : List ℕ) (files : List (List ℕ)) (methods : ℕ) (accepted : IsAccepted name files methods) → HasSomeOrder accepted.read → NeverStuck name files
accepted-runs name files methods accepted ordered = record {
  read = accepted.read;
  parsed = accepted.parsed;
  ordered = ordered;
  defined = λ order struct_order in_front. runs-in-order name files methods accepted order struct_order in_front;
}

pub accepted-never-stuck : AcceptedAreNeverStuck
accepted-never-stuck name files methods accepted =
    let read = accepted.read in
    accepted-runs name files methods accepted (kept-have-orders read.name read.texts (decls_of read) accepted.names)
