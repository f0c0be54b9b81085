-- The text of a typed package has the unit form where its types, its items' names and its surface are in order.
use Rattle.std.proofs.Common.{◌&&◌, ◌≡◌, ℕ, zero, suc, Bool, true, false, List, [], ◌∷◌, ◌++◌, map, length, take, Option, Some, None, refl, sym, ap, ◌∙◌, subst, append_assoc, ◌⊎◌, inl, inr, not}
use Rattle.std.specs.Prelude.{if◌then◌else◌, slice_get, bytes_eq, codes}
use Rattle.std.proofs.lemmas.Slice.Eq.{bytes_eq-Decides}
use Rattle.std.specs.List.{list_all}
use Rattle.wf_text.specs.Precedence.{Decides}
use Rattle.wf_text.specs.Surface.{Surface, AnswerKind}
use Rattle.wf_text.specs.Surface as surface
use Rattle.wf_ast.specs.declared.typed_nodes.TypedNodes.{TypedNodes}
use Rattle.wf_ast.specs.TypedInvariant.{IsTyped}
use Rattle.wf_ast.specs.TypedPackage.{MethodTree, PackageTree, package_of, surface_of, answers_of}
use Rattle.wf_ast.specs.WellTyped.{is_coroutine, well_method}
use Rattle.wf_ast.proofs.Arena.{both_true}
use Rattle.wf_meaning.specs.Remaining.{number_of}
use Rattle.wf_points.specs.PointNumbers.{HasTooMany}
use Rattle.c_text.specs.declared.kinds.CNumber.TheVariants.{Int}
use Rattle.c_text.specs.declared.kinds.Linkage.TheVariants.{Static}
use Rattle.c_text.specs.CTree.{Code, finish, empty, jump, repeat, select, case_label, ItemTree, struct_item, text_item, function_item}
use Rattle.c_text.specs.CTree as tree
use Rattle.c_meaning.specs.CStep.{Continuation, stop, behind, again, Place, at, by_name, find}
use Rattle.c_meaning.specs.CTypes.{structs_of, scope_of, is_known, local_name}
use Rattle.c_meaning.specs.UnitForm.{Checked, checked, may_loop, all_distinct, labels_of, cases_of, formed_code, formed_locals, is_result, own_names, formed_content, item_name, is_io_buffer, free_name, meets_surface, formed_item, is_complete, break_from, answer_type, is_among, is_library}
use Rattle.wf_exprs.specs.Helpers.{saturating}
use Rattle.wf_exprs.specs.Words.{num, of_self}
use Rattle.wf_exprs.specs.Names.{point_field}
use Rattle.wf_lower_stmts.specs.Forms.{Form, form_of, resume_local, when_some}
use Rattle.wf_lower_stmts.specs.Lower.{ending, top, tail_of, lower_trail}
use Rattle.wf_lower.specs.Bodies.{body_code, own_names as method_names, resumed, statements_of, body_function, entry_code, entry_function}
use Rattle.wf_lower.specs.Unit.{io_buffer_item, initialize_code, initialize_function, lowered_unit}
use Rattle.wf_lower_laws.specs.JumpLaw.{LeadsBehind}
use Rattle.wf_lower_laws.specs.NameLaw.{HasNames, OwnNames}
use Rattle.wf_lower_laws.specs.LabelLaw.{AreCases}
use Rattle.wf_lower_laws.specs.FormLaw.{typed_code, typed_item, KeepsTypes, TextsAreFormed}
use Rattle.wf_lower_laws.proofs.Straight.{Straight, over, assigned, calling, leaving, guarded, top_straight, ending_straight}
use Rattle.wf_lower_laws.proofs.Everywhere.{Everywhere, IsEasy, straight_everywhere}
use Rattle.wf_lower_laws.proofs.Bodies.{touches, takes_number, entry_straight, initialize_straight}
use Rattle.wf_lower_laws.proofs.Functions.{body_finds, body_everywhere}
use Rattle.wf_lower_laws.proofs.Numbers.{HasLoops, has_loops, are_spelt}
use Rattle.wf_lower_laws.proofs.Loops.{whole}
use Rattle.wf_lower_laws.proofs.Jumps.{Leads, leads_easy, block_leads}
use Rattle.wf_lower_laws.proofs.Free.{block_free}
use Rattle.wf_lower_laws.proofs.Labels.{straight_distinct, body_distinct}
use Rattle.wf_lower_laws.proofs.Cases.{case_numbers, straight_cases, straight_defaults, block_cases, block_defaults, switch_cases}
use Rattle.wf_lower_laws.proofs.JumpLaw.{body_of, look_in, block_rules, method_rules, all_methods}
use Rattle.wf_lower_laws.proofs.Names.{either_true, both_hold, is_item}
use Rattle.wf_lower_laws.proofs.NameLaw.{item_is_named, texts_name_apart}
use Rattle.wf_lower_laws.proofs.Apart.{left_or, right_or}
use Rattle.wf_lower_laws.proofs.ItemNames.{items_name_apart}
use Rattle.wf_lower_laws.proofs.Control.{Controls, jump_formed, CasesIn, no_cases_in, formed, no_points}
use Rattle.wf_lower_laws.proofs.Items.{each_at, in_unit}

-- ---- the rules of control, for each function

controls_easy : (c : Checked) → IsEasy (Controls c)
controls_easy c = record {
  assigns = λ target value rest k. tt;
  calls = λ target function given rest k. tt;
  leaves = λ value rest k. tt;
  branches = λ test body otherwise other rest k. tt;
  empties = λ rest k. tt;
  cases = λ n rest k. tt;
}

-- Code that is formed where it is typed.
record Sound (c : Checked) (code : Code) : Type 0 where
  formed_so : typed_code c code ≡ true → formed_code c false code stop ≡ true

-- Code that neither jumps nor loops, as that of entries and inits.
straight_sound : (c : Checked) (code : Code) → Straight finish code → Sound c code
straight_sound c code s = record {
  formed_so = λ t. formed c false code stop (straight_everywhere (Controls c) (controls_easy c) finish code s stop tt) (no_cases_in code (straight_cases finish code s) (straight_defaults finish code s)) t;
}

-- A rule and another of each statement.
module _ (look : List ℕ → Option Place) (c : Checked) (same : (name : List ℕ) → look name ≡ find (by_name name) c.body stop) where
  -- What is left of the rules where jumps lead as they must.
  abbrev Others : Code → Continuation → Type 0
  Others (jump label rest) k = Unit {0}
  Others (repeat test body rest) k = Controls c (repeat test body rest) k
  Others (select on body rest) k = Controls c (select on body rest) k
  Others code k = Unit {0}

  others_easy : IsEasy Others
  others_easy = record {
    assigns = λ target value rest k. tt;
    calls = λ target function given rest k. tt;
    leaves = λ value rest k. tt;
    branches = λ test body otherwise other rest k. tt;
    empties = λ rest k. tt;
    cases = λ n rest k. tt;
  }

  together : (code : Code) (k : Continuation) → Everywhere (Leads look) code k → Everywhere Others code k → Everywhere (Controls c) code k
  together finish k h j = tt
  together (tree.nested inner rest) k h j = (tt, (together inner (behind finish rest k) h.1.0 j.1.0, together rest k h.1.1 j.1.1))
  together (empty rest) k h j = (tt, together rest k h.1 j.1)
  together (tree.assign target value rest) k h j = (tt, together rest k h.1 j.1)
  together (tree.call target function given rest) k h j = (tt, together rest k h.1 j.1)
  together (jump label rest) k h j =
      let P : Option Place → Type 0 = LeadsBehind (at (jump label rest) k) in
      (jump_formed c (at (jump label rest) k) (find (by_name label) c.body stop) (subst P (same label) h.0), together rest k h.1 j.1)
  together (tree.branch test body otherwise other rest) k h j =
      (tt, (together body (behind other rest k) h.1.0 j.1.0, (together other (behind finish rest k) h.1.1.0 j.1.1.0, together rest k h.1.1.1 j.1.1.1)))
  together (repeat test body rest) k h j = (j.0, (together body (again test body (behind finish rest k)) h.1.0 j.1.0, together rest k h.1.1 j.1.1))
  together (select on body rest) k h j = (j.0, (together body (behind finish rest k) h.1.0 j.1.0, together rest k h.1.1 j.1.1))
  together (tree.leave value rest) k h j = (tt, together rest k h.1 j.1)
  together (case_label n rest) k h j = (tt, together rest k h.1 j.1)
  together (tree.default_label rest) k h j = (tt, together rest k h.1 j.1)
  together (tree.name_label name rest) k h j = (tt, together rest k h.1 j.1)

-- Cases of a method's function stand in its `switch`.
straight_in : (s : Bool) (rest code : Code) → Straight rest code → CasesIn s rest → CasesIn s code
straight_in s rest _ over h = h
straight_in s rest _ (assigned target value code t) h = straight_in s rest code t h
straight_in s rest _ (calling target function given code t) h = straight_in s rest code t h
straight_in s rest _ (leaving value code t) h = straight_in s rest code t h
straight_in s rest _ (guarded test body code b t) h = (straight_in s finish body b tt, (tt, straight_in s rest code t h))

own_in : (f : Form) (coroutine : Bool) (own : Code) → (coroutine ≡ false → CasesIn false own)
    → CasesIn false (if coroutine then tree.assign (of_self (point_field f.method.name)) (num 0) (when_some resume_local (resumed f) (select resume_local (case_label (Int 0) (empty own)) (ending f))) else own)
own_in f true own h =
    straight_in false (select resume_local (case_label (Int 0) (empty own)) (ending f)) _ (takes_number f (of_self (point_field f.method.name)) (num 0) resume_local (select resume_local (case_label (Int 0) (empty own)) (ending f)))
    (straight_in false finish (ending f) (ending_straight f) tt)
own_in f false own h = h refl

statements_in : (p : PackageTree) (m : MethodTree) → well_method p m ≡ true → is_coroutine m.mark ≡ false → CasesIn false (statements_of (form_of p m))
statements_in p m h e =
    let f = form_of p m in
    let n = number_of m.body in
    let none = no_points (record { within = p; method = m }) [] m.body e (block_rules p m h) in
    let numbers : case_numbers (statements_of f) ≡ [] =
    block_cases f n m.body (tail_of f top) ∙ (ap (λ sites. map (λ site. Int (n site)) sites ++ case_numbers (tail_of f top)) none ∙ straight_cases finish (tail_of f top) (top_straight f)) in
    no_cases_in (statements_of f) numbers (block_defaults f n m.body (tail_of f top) ∙ straight_defaults finish (tail_of f top) (top_straight f))

body_sound : (p : PackageTree) (m : MethodTree) (c : Checked) → well_method p m ≡ true → HasLoops m.body → AreCases (cases_of (case_label (Int 0) (empty (statements_of (form_of p m)))))
    → c.body ≡ body_of (form_of p m) → c.linkage ≡ Static → Sound c (body_of (form_of p m))
body_sound p m c h l cases is static =
    let f = form_of p m in
    let look = look_in (body_of f) in
    let same : (name : List ℕ) → look name ≡ find (by_name name) c.body stop = λ name. ap (λ b. find (by_name name) b stop) (sym is) in
    let loops : may_loop c.linkage ≡ true = ap may_loop static in
    let leads = body_everywhere (Leads look) (leads_easy look) f (λ on. tt) (method_names f) (body_code f)
    (block_leads f (number_of m.body) (record { within = p; method = m }) m.body look (λ name. body_finds f name (method_names f) (body_code f)) l.small (are_spelt m.body l.small) m.body top
    (record { breaking = whole _ _ _ _ m.body l.apart; continuing = whole _ _ _ _ m.body l.apart }) (block_rules p m h)) in
    let others = body_everywhere (Others look c same) (others_easy look c same) f (λ on. cases.formed) (method_names f) (body_code f)
    (block_free (Others look c same) (others_easy look c same) (λ label rest k. tt) (λ test body rest k. loops) (λ name rest k. tt) f (number_of m.body) m.body (tail_of f top) (lower_trail f (number_of m.body) top)
    (straight_everywhere (Others look c same) (others_easy look c same) finish (tail_of f top) (top_straight f) (lower_trail f (number_of m.body) top) tt)) in
    record {
      formed_so = λ t. formed c false (body_of f) stop (together look c same (body_of f) stop leads others)
          (straight_in false (body_code f) (body_of f) (touches (method_names f) (body_code f) (body_code f)) (own_in f (is_coroutine m.mark) (statements_of f) (statements_in p m h))) t;
    }

-- ---- functions

results : (kind : AnswerKind) → is_result (answer_type kind) ≡ true
results surface.status = refl
results (surface.numeric bits) = refl
results surface.truth = refl
results surface.nothing = refl

-- An item in the place where it stands, with what is asked of its types.
abbrev FormedWhereTyped : (all : List (List ℕ)) → ItemTree → Type 0
FormedWhereTyped all item = (before : List ItemTree) → OwnNames all item → typed_item before item ≡ true → formed_content before all item ≡ true

-- What types don't tell of it.
abbrev Rest : ItemTree → Type 0
Rest (struct_item fields name) = Unit {0}
Rest (text_item name bytes) = Unit {0}
Rest (function_item linkage result_type name params locals body) =
    (is_result result_type ≡ true) × ((all_distinct (labels_of body) ≡ true) × ((before : List ItemTree) → Sound (checked before linkage result_type (params ++ map local_name locals) body) body))

where_typed : (all : List (List ℕ)) (item : ItemTree) → Rest item → FormedWhereTyped all item
where_typed all (struct_item fields name) r before o t = t
where_typed all (text_item name bytes) r before o t = refl
where_typed all (function_item linkage result_type name params locals body) r before o t =
    let p = both_true (list_all (λ p. is_known (structs_of before) p.kind) params) _ t in
    let q = both_true (formed_locals (scope_of before params) locals) _ p.1 in
    both_hold (is_result result_type) _ r.0 (both_hold (list_all (λ p. is_known (structs_of before) p.kind) params) _ p.0 (both_hold (own_names (params ++ map local_name locals) all) _ o.0
    (both_hold (formed_locals (scope_of before params) locals) _ q.0 (both_hold (all_distinct (labels_of body)) _ r.1.0 ((r.1.1 before).formed_so q.1)))))

helper_rest : (sum : Bool) (bits : ℕ) → Rest (saturating sum bits)
helper_rest sum bits = (refl, (refl, λ before. straight_sound _ _ (leaving _ _ over)))

init_rest : (p : PackageTree) (s : ℕ) → Rest (initialize_function p s)
init_rest p s = (refl, (straight_distinct (initialize_code p s) (initialize_straight p s), λ before. straight_sound _ (initialize_code p s) (initialize_straight p s)))

entry_rest : (p : PackageTree) (n : ℕ) (m : MethodTree) → Rest (entry_function p n m)
entry_rest p n m = (results (answers_of m.mark m.gives), (straight_distinct (entry_code p n m) (entry_straight p n m), λ before. straight_sound _ (entry_code p n m) (entry_straight p n m)))

body_rest : (p : PackageTree) (m : MethodTree) → well_method p m ≡ true → HasLoops m.body → AreCases (cases_of (case_label (Int 0) (empty (statements_of (form_of p m))))) → Rest (body_function (form_of p m))
body_rest p m h l cases =
    let f = form_of p m in
    (results (answers_of m.mark m.gives), (body_distinct f (method_names f) (body_code f) l.apart l.small, λ before. body_sound p m _ h l cases refl refl))

rest_of : (nodes : TypedNodes) → IsTyped nodes → Decides (HasTooMany (package_of nodes)) None → (i : ℕ) (item : ItemTree) → slice_get (lowered_unit (package_of nodes)) i ≡ Some item → Rest item
rest_of nodes typed few i item e =
    let p = package_of nodes in
    each_at Rest (lowered_unit p) (in_unit Rest p (record {
      buffer = tt;
      structs = λ s. tt;
      texts = λ n bytes. tt;
      helpers = helper_rest;
      inits = init_rest p;
      bodies = λ n m is. body_rest p m (method_rules p p.methods n m (all_methods p typed.rules) is) (has_loops nodes n m typed is) (switch_cases (form_of p m) nodes typed few n is);
      entries = λ n m is. entry_rest p n m;
    })) i item e

-- ---- the unit

take_next : (before items : List ItemTree) (item : ItemTree) → take (length before) (before ++ item ∷ items) ≡ before
take_next [] items item = refl
take_next (x ∷ before) items item = ap (λ xs. x ∷ xs) (take_next before items item)

at_next : (before items : List ItemTree) (item : ItemTree) → slice_get (before ++ item ∷ items) (length before) ≡ Some item
at_next [] items item = refl
at_next (x ∷ before) items item = at_next before items item

-- A list of which each item is formed after those before it.
formed_list : (s : Surface) (all before items : List ItemTree) → before ++ items ≡ all → is_complete s all ≡ true
    → ((i : ℕ) (item : ItemTree) → slice_get all i ≡ Some item → formed_item s (take i all) (map item_name all) item ≡ true) → break_from s before all items ≡ None
formed_list s all before [] e c h = rw c refl
formed_list s all before (item ∷ items) e c h =
    let P : List ItemTree → Type 0 = λ xs. take (length before) xs ≡ before in
    let Q : List ItemTree → Type 0 = λ xs. slice_get xs (length before) ≡ Some item in
    let R : List ItemTree → Type 0 = λ xs. formed_item s xs (map item_name all) item ≡ true in
    let one : formed_item s before (map item_name all) item ≡ true = subst R (subst P e (take_next before items item)) (h (length before) item (subst Q e (at_next before items item))) in
    rw one (formed_list s all (before ++ item ∷ []) items (append_assoc before (item ∷ []) items ∙ e) c h)

item_formed : (s : Surface) (before : List ItemTree) (all : List (List ℕ)) (item : ItemTree) → (before ≡ [] → is_io_buffer item ≡ true) → free_name before item ≡ true → ((x : ItemTree) (xs : List ItemTree) → before ≡ x ∷ xs → formed_content before all item ≡ true) → meets_surface s item ≡ true
    → formed_item s before all item ≡ true
item_formed s [] all item first free formed meets = both_hold (is_io_buffer item) _ (first refl) meets
item_formed s (x ∷ before) all item first free formed meets = both_hold (free_name (x ∷ before) item) _ free (both_hold (formed_content (x ∷ before) all item) _ (formed x before refl) meets)

-- The first item of a text is the io buffer's struct.
first_item : (p : PackageTree) (i : ℕ) (item : ItemTree) → slice_get (lowered_unit p) i ≡ Some item → take i (lowered_unit p) ≡ [] → is_io_buffer item ≡ true
unfolding lowered_unit
first_item p zero item e h =
    let same : io_buffer_item ≡ item = cc e in
    let P : ItemTree → Type 0 = λ item. is_io_buffer item ≡ true in
    subst P same refl
first_item p (suc i) item e h = absurd (cc h)

none_true : (a b : Bool) → b ≡ false → (a && b) ≡ false
none_true true b h = h
none_true false b h = refl

stands : (i : ℕ) (items : List ItemTree) (item : ItemTree) (l : List ℕ) → slice_get items i ≡ Some item → item_name item ≡ l → is_among (map item_name items) l ≡ true
stands i [] item l e g = absurd (cc e)
stands zero (x ∷ items) item l e g =
    let same : x ≡ item = cc e in
    let name : l ≡ item_name x = sym g ∙ ap item_name (sym same) in
    left_or (bytes_eq l (item_name x)) (is_among (map item_name items) l) ((bytes_eq-Decides l (item_name x)).1 name)
stands (suc i) (x ∷ items) item l e g = right_or (bytes_eq l (item_name x)) (is_among (map item_name items) l) (stands i items item l e g)

-- The functions of the library have no names of items.
no_library : (l : List ℕ) → is_item l ≡ true → is_library l ≡ false
no_library l h = by (is_library l) refl
  where
    moved_or_set : (bytes_eq l (codes "memmove") ≡ true) ⊎ (bytes_eq l (codes "memset") ≡ true) → is_library l ≡ false
    moved_or_set (inl t) =
        let P : List ℕ → Type 0 = λ l. is_item l ≡ true in
        let none : is_item (codes "memmove") ≡ true = subst P ((bytes_eq-Decides l (codes "memmove")).0 t) h in
        absurd (cc none)
    moved_or_set (inr t) =
        let P : List ℕ → Type 0 = λ l. is_item l ≡ true in
        let none : is_item (codes "memset") ≡ true = subst P ((bytes_eq-Decides l (codes "memset")).0 t) h in
        absurd (cc none)

    by : (b : Bool) → is_library l ≡ b → is_library l ≡ false
    by false e = e
    by true e = moved_or_set (either_true (bytes_eq l (codes "memmove")) (bytes_eq l (codes "memset")) e)

-- An item whose name no other has, and no function of the library.
among_front : (i : ℕ) (items : List ItemTree) (item : ItemTree) (l : List ℕ) → slice_get items i ≡ Some item → is_among (map item_name (take i items)) l ≡ true → (item_name item ≡ l) → all_distinct (map item_name items) ≡ false
among_front zero [] item l e a g = absurd (cc e)
among_front zero (x ∷ items) item l e a g = absurd (cc a)
among_front (suc i) [] item l e a g = absurd (cc e)
among_front (suc i) (x ∷ items) item l e a g = by (either_true (bytes_eq l (item_name x)) (is_among (map item_name (take i items)) l) a) (λ h. among_front i items item l e h g)
  where
    by : (bytes_eq l (item_name x) ≡ true) ⊎ (is_among (map item_name (take i items)) l ≡ true) → (is_among (map item_name (take i items)) l ≡ true → all_distinct (map item_name items) ≡ false) → all_distinct (map item_name (x ∷ items)) ≡ false
    by (inl t) more =
        let same : item_name item ≡ item_name x = g ∙ (bytes_eq-Decides l (item_name x)).0 t in
        let there : is_among (map item_name items) (item_name x) ≡ true = stands i items item (item_name x) e same in
        rw there refl
    by (inr t) more = none_true (not (is_among (map item_name items) (item_name x))) (all_distinct (map item_name items)) (more t)

free_item : (p : PackageTree) (i : ℕ) (item : ItemTree) → all_distinct (map item_name (lowered_unit p)) ≡ true → slice_get (lowered_unit p) i ≡ Some item → free_name (take i (lowered_unit p)) item ≡ true
free_item p i item d e = by (is_among (map item_name (take i (lowered_unit p))) (item_name item)) refl
  where
    named_so : is_item (item_name item) ≡ true
    named_so = item_is_named p i item e

    by : (b : Bool) → is_among (map item_name (take i (lowered_unit p))) (item_name item) ≡ b → free_name (take i (lowered_unit p)) item ≡ true
    by true a = absurd (cc (d, among_front i (lowered_unit p) item (item_name item) e a refl))
    by false a = rw (a, no_library (item_name item) named_so) refl

-- What stands after others is formed where it is typed.
formed_behind : (nodes : TypedNodes) → IsTyped nodes → Decides (HasTooMany (package_of nodes)) None → HasNames (package_of nodes) → KeepsTypes (surface_of (package_of nodes)) (lowered_unit (package_of nodes))
    → (i : ℕ) (item : ItemTree) → slice_get (lowered_unit (package_of nodes)) i ≡ Some item → (x : ItemTree) (xs : List ItemTree) → take i (lowered_unit (package_of nodes)) ≡ x ∷ xs
    → formed_content (take i (lowered_unit (package_of nodes))) (map item_name (lowered_unit (package_of nodes))) item ≡ true
formed_behind nodes typed few named keeps zero item e x xs h = absurd (cc h)
formed_behind nodes typed few named keeps (suc i) item e x xs h =
    let p = package_of nodes in
    where_typed (map item_name (lowered_unit p)) item (rest_of nodes typed few (suc i) item e) (take (suc i) (lowered_unit p)) (texts_name_apart p (suc i) item named e) (keeps.typed i item e)

pub texts_are_formed : TextsAreFormed
texts_are_formed nodes typed few named apart keeps =
    let p = package_of nodes in
    let items = lowered_unit p in
    let all = map item_name items in
    formed_list (surface_of p) items [] items refl keeps.complete (λ i item e.
    item_formed (surface_of p) (take i items) all item (first_item p i item e) (free_item p i item (items_name_apart p apart) e)
    (formed_behind nodes typed few named keeps i item e) (keeps.meets i item e))
