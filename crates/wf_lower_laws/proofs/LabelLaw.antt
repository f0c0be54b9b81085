-- The labels of each function differ, and so do the cases of each `switch`.
use Rattle.std.proofs.Common.{◌≡◌, ℕ, true, List, Option, Some, None, refl}
use Rattle.wf_ast.specs.TypedPackage.{MethodTree, PackageTree, package_of}
use Rattle.wf_ast.specs.WellTyped.{well_method}
use Rattle.wf_meaning.specs.Remaining.{number_of}
use Rattle.c_text.specs.CTree.{Code, finish, empty, case_label, jump, select}
use Rattle.c_text.specs.declared.kinds.CNumber.TheVariants.{Int}
use Rattle.c_meaning.specs.CStep.{Continuation, stop, Place, at, by_name, find}
use Rattle.c_meaning.specs.UnitForm.{is_among, all_distinct, labels_of, cases_of}
use Rattle.c_meaning.specs.TextOrder.{StandsAt}
use Rattle.wf_lower_stmts.specs.Forms.{form_of}
use Rattle.wf_lower_stmts.specs.Lower.{top, tail_of, lower_trail}
use Rattle.wf_lower.specs.Bodies.{statements_of, body_code, own_names, entry_code}
use Rattle.wf_lower.specs.Unit.{initialize_code, lowered_unit}
use Rattle.wf_lower_laws.specs.JumpLaw.{LeadsBehind, LeadForward}
use Rattle.wf_lower_laws.specs.LabelLaw.{AreCases, IsLabelled, LabelledItem, TextsAreLabelled}
use Rattle.wf_lower_laws.proofs.Straight.{Straight, leaving, over, top_straight}
use Rattle.wf_lower_laws.proofs.Everywhere.{Everywhere, IsEasy, everywhere_at, straight_everywhere}
use Rattle.wf_lower_laws.proofs.Bodies.{entry_straight, initialize_straight}
use Rattle.wf_lower_laws.proofs.Functions.{body_everywhere}
use Rattle.wf_lower_laws.proofs.Numbers.{HasLoops, has_loops}
use Rattle.wf_lower_laws.proofs.Labels.{found_among, straight_distinct, body_distinct}
use Rattle.wf_lower_laws.proofs.Cases.{switch_cases}
use Rattle.wf_lower_laws.proofs.Free.{block_free}
use Rattle.wf_lower_laws.proofs.Items.{each_at, in_unit}
use Rattle.wf_lower_laws.proofs.JumpLaw.{body_of, straight_forward, body_forward, method_rules, all_methods}

-- What is asked of a `switch`; nothing of other statements.
abbrev Switches : Code → Continuation → Type 0
Switches (select on body rest) k = AreCases (cases_of body)
Switches code k = Unit {0}

switches_easy : IsEasy Switches
switches_easy = record {
  assigns = λ target value rest k. tt;
  calls = λ target function given rest k. tt;
  leaves = λ value rest k. tt;
  branches = λ test body otherwise other rest k. tt;
  empties = λ rest k. tt;
  cases = λ n rest k. tt;
}

named_in : (body : Code) → LeadForward body → (number : ℕ) (label : List ℕ) (rest : Code) (k : Continuation) → StandsAt body number (at (jump label rest) k) → is_among (labels_of body) label ≡ true
named_in body forward number label rest k e = by (find (by_name label) body stop) refl (forward number label rest k e)
  where
    by : (o : Option Place) → find (by_name label) body stop ≡ o → LeadsBehind (at (jump label rest) k) o → is_among (labels_of body) label ≡ true
    by None g h = absurd h
    by (Some p) g h = found_among label body stop p g

labelled : (body : Code) → LeadForward body → all_distinct (labels_of body) ≡ true → Everywhere Switches body stop → IsLabelled body
labelled body forward distinct switches = record {
  labels = distinct;
  named = named_in body forward;
  cases = λ number on inner rest k e. everywhere_at Switches body stop switches number (at (select on inner rest) k) e;
}

straight_labelled : (body : Code) → Straight finish body → IsLabelled body
straight_labelled body s = labelled body (straight_forward body s) (straight_distinct body s) (straight_everywhere Switches switches_easy finish body s stop tt)

body_labelled : (p : PackageTree) (m : MethodTree) → well_method p m ≡ true → HasLoops m.body → AreCases (cases_of (case_label (Int 0) (empty (statements_of (form_of p m))))) → IsLabelled (body_of (form_of p m))
body_labelled p m h l cases =
    let f = form_of p m in
    labelled (body_of f) (body_forward p m h l) (body_distinct f (own_names f) (body_code f) l.apart l.small)
    (body_everywhere Switches switches_easy f (λ on. cases) (own_names f) (body_code f)
    (block_free Switches switches_easy (λ label rest k. tt) (λ test body rest k. tt) (λ name rest k. tt) f (number_of m.body) m.body (tail_of f top) (lower_trail f (number_of m.body) top)
    (straight_everywhere Switches switches_easy finish (tail_of f top) (top_straight f) (lower_trail f (number_of m.body) top) tt)))

pub texts_are_labelled : TextsAreLabelled
texts_are_labelled nodes number item typed few e =
    let p = package_of nodes in
    each_at LabelledItem (lowered_unit p) (in_unit LabelledItem p (record {
      buffer = tt;
      structs = λ s. tt;
      texts = λ n bytes. tt;
      helpers = λ sum bits. straight_labelled _ (leaving _ _ over);
      inits = λ s. straight_labelled (initialize_code p s) (initialize_straight p s);
      bodies = λ n m is. body_labelled p m (method_rules p p.methods n m (all_methods p typed.rules) is) (has_loops nodes n m typed is) (switch_cases (form_of p m) nodes typed few n is);
      entries = λ n m is. straight_labelled (entry_code p n m) (entry_straight p n m);
    })) number item e
