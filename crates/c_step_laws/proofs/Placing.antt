-- The functions of a program are items of its text, and see the names that the items declare.
use Rattle.std.proofs.Common.{◌≡◌, ℕ, zero, suc, ◌+◌, Bool, true, false, List, [], ◌∷◌, ◌++◌, length, map, find, take, drop, Option, Some, None, refl, sym, ap, ◌∙◌, subst, arith}
use Rattle.std.specs.Prelude.{if◌then◌else◌, reverse, slice_get, bytes_eq}
use Rattle.std.proofs.lemmas.List.{append_assoc, append-nil, length-append, reverse-append, take_at}
use Rattle.std.proofs.lemmas.Slice.Eq.{bytes_eq-Decides}
use Rattle.wf_text.specs.Surface.{Surface}
use Rattle.c_text.specs.CTree.{ExprTree, ParamTree, LocalTree, ItemTree, struct_item, text_item, function_item}
use Rattle.c_meaning.specs.CTypes.{StructDecl, TextDecl, Function, scope_of, structs_of, texts_of, functions_of, local_name, names_of, struct_named, function_named, one, characters, variable_held}
use Rattle.c_meaning.specs.CCall.{Program, program_of, scope_in}
use Rattle.c_meaning.specs.UnitForm.{item_name, HasUnitForm, checked}
use Rattle.c_form_laws.specs.Places.{At, Has, Each}
use Rattle.c_form_laws.specs.StatementRules.{statements}
use Rattle.c_form_laws.specs.UnitRules.{MayBegin, KeepsLocal, KeepsFunction, KeepsOwn, own_names}
use Rattle.c_form_laws.proofs.NameLaws.{Is, find_is}
use Rattle.c_form_laws.proofs.BreakLaws.{form_is_kept}
use Rattle.c_step_exprs.specs.Resolving.{function_number}
use Rattle.c_step_text.specs.Acting.{names_of as names_in}
use Rattle.c_step_program.specs.Programs.{AreApart, own, code_of}
use Rattle.c_step_program.proofs.Apart.{functions_append, functions_apart}
use Rattle.c_step_program.proofs.Coded.{none_in}
use Rattle.c_step_program.proofs.Scopes.{alike_items}
use Rattle.c_step_cells.specs.Chains.{cells_at, called_cells}
use Rattle.c_step_laws.specs.Callees.{callees}
use Rattle.c_step_laws.proofs.Lists.{greatest, get_at}
use Rattle.c_step_laws.proofs.ExprCells.{numbered}
use Rattle.c_step_laws.proofs.CodeCells.{AreNumbered}
use Rattle.c_step_laws.proofs.FunctionCells.{HasInitial, HaveInitials, part_of, function_is}
use Rattle.c_step_laws.proofs.Rising.{Up, Extends, rises}

-- Lists of items.
structs_append : (xs ys : List ItemTree) → structs_of (xs ++ ys) ≡ structs_of xs ++ structs_of ys
structs_append [] ys = refl
structs_append (struct_item fields n ∷ xs) ys = ap (λ (ss : List StructDecl). record { fields = fields; name = n } ∷ ss) (structs_append xs ys)
structs_append (text_item n bytes ∷ xs) ys = structs_append xs ys
structs_append (function_item linkage type n params locals body ∷ xs) ys = structs_append xs ys

texts_append : (xs ys : List ItemTree) → texts_of (xs ++ ys) ≡ texts_of xs ++ texts_of ys
texts_append [] ys = refl
texts_append (struct_item fields n ∷ xs) ys = texts_append xs ys
texts_append (text_item n bytes ∷ xs) ys = ap (λ (ss : List TextDecl). record { name = n; bytes = bytes } ∷ ss) (texts_append xs ys)
texts_append (function_item linkage type n params locals body ∷ xs) ys = texts_append xs ys

text_has : (items : List ItemTree) (i : ℕ) (t : TextDecl) → At (texts_of items) i t → Has (map item_name items) t.name
text_has [] i t e = absurd (cc e)
text_has (struct_item fields n ∷ items) i t e = let k = text_has items i t e in (suc k.0, k.1)
text_has (function_item linkage type n params locals body ∷ items) i t e = let k = text_has items i t e in (suc k.0, k.1)
text_has (text_item n bytes ∷ items) zero t e =
    let it : record { name = n; bytes = bytes } ≡ t = cc e in
    (0, ap (λ (u : TextDecl). Some u.name) it)
text_has (text_item n bytes ∷ items) (suc i) t e = let k = text_has items i t e in (suc k.0, k.1)

find_front : {A : Type 0} (test : A → Bool) (xs ys : List A) (x : A) → find test xs ≡ Some x → find test (xs ++ ys) ≡ Some x
find_front test [] ys x e = absurd (cc e)
find_front test (z ∷ xs) ys x e = by (test z) e (find_front test xs ys x)
  where
    by : (b : Bool) → (if b then Some z else find test xs) ≡ Some x → (find test xs ≡ Some x → find test (xs ++ ys) ≡ Some x) → (if b then Some z else find test (xs ++ ys)) ≡ Some x
    by true e more = e
    by false e more = more e

both_ends : {A : Type 0} (n : ℕ) (xs : List A) → take n xs ++ drop n xs ≡ xs
both_ends zero xs = refl
both_ends (suc n) [] = refl
both_ends (suc n) (x ∷ xs) = ap (λ ys. x ∷ ys) (both_ends n xs)

-- Each function of a program is an item of its text.
abbrev pub item_of : Function → ItemTree
item_of f = function_item f.linkage f.result_type f.name f.params f.locals f.body

pub record IsItem (items : List ItemTree) (f : Function) (fs : List Function) : Type 0 where
  pub i : ℕ
  pub there : At items i (item_of f)
  pub before : fs ≡ reverse (functions_of (take i items))

abbrev AreItems : List ItemTree → List Function → Type 0
AreItems items [] = Unit {0}
AreItems items (f ∷ fs) = IsItem items f fs × AreItems items fs

front_taken : (items before rest : List ItemTree) → items ≡ before ++ rest → take (length before) items ≡ before
front_taken items before rest is = ap (take (length before)) is ∙ take_at before rest (length before) refl

one_more : (items before rest : List ItemTree) (item : ItemTree) → items ≡ before ++ item ∷ rest → AreItems items (reverse (functions_of before)) → AreItems items (reverse (functions_of (before ++ item ∷ [])))
one_more items before rest (struct_item fields n) is h = subst (λ (fs : List Function). AreItems items (reverse fs)) (sym (functions_append before (struct_item fields n ∷ []) ∙ append-nil (functions_of before))) h
one_more items before rest (text_item n bytes) is h = subst (λ (fs : List Function). AreItems items (reverse fs)) (sym (functions_append before (text_item n bytes ∷ []) ∙ append-nil (functions_of before))) h
one_more items before rest (function_item linkage type n params locals body) is h =
    subst (λ (fs : List Function). AreItems items (reverse fs)) (sym (functions_append before (function_item linkage type n params locals body ∷ [])))
    (subst (AreItems items) (sym (reverse-append (functions_of before) (f ∷ []))) (
      record {
        i = length before;
        there = ap (λ (xs : List ItemTree). slice_get xs (length before)) is ∙ get_at before (item_of f) rest;
        before = ap (λ (xs : List ItemTree). reverse (functions_of xs)) (sym (front_taken items before (item_of f ∷ rest) is));
      },
      h,
    ))
  where
    f : Function
    f = record { linkage = linkage; result_type = type; name = n; params = params; locals = locals; body = body }

are_items : (items before rest : List ItemTree) → items ≡ before ++ rest → AreItems items (reverse (functions_of before)) → AreItems items (reverse (functions_of items))
are_items items before [] is h = subst (λ (xs : List ItemTree). AreItems items (reverse (functions_of xs))) (sym (is ∙ append-nil before)) h
are_items items before (item ∷ rest) is h = are_items items (before ++ item ∷ []) rest (is ∙ sym (append_assoc before (item ∷ []) rest)) (one_more items before rest item is h)

one_item : (items : List ItemTree) (after : List Function) (f : Function) (fs : List Function) → AreItems items (after ++ f ∷ fs) → IsItem items f fs
one_item items [] f fs h = h.0
one_item items (a ∷ after) f fs h = one_item items after f fs h.1

pub is_item : (items : List ItemTree) (after : List Function) (f : Function) (fs : List Function) → (program_of items).functions ≡ after ++ f ∷ fs → IsItem items f fs
is_item items after f fs is = one_item items after f fs (subst (AreItems items) is (are_items items [] items refl tt))

-- The rules that it keeps.
kept_function : (before : List ItemTree) (all : List (List ℕ)) (f : Function) → KeepsOwn before all (item_of f) → KeepsFunction before all f.linkage f.result_type f.params f.locals f.body
kept_function [] all f h = absurd (cc h)
kept_function (x ∷ before) all f h = h.2

-- What is seen before an item is seen in the whole text.
module _ (surface : Surface) (items : List ItemTree) (form : HasUnitForm surface items) (f : Function) (i : ℕ) (own_name : (it : ParamTree) → Has (names_of f) it → Has (map item_name items) it.name → ⊥) where
  abbrev p : Program
  p = program_of items

  abbrev before : List ItemTree
  before = take i items

  struct_up : (name : List ℕ) → Up (struct_named (structs_of before) name) (struct_named p.structs name)
  struct_up name x h =
      (alike_items surface items form).structs name
      ∙ (ap (λ (xs : List ItemTree). struct_named (structs_of xs) name) (sym (both_ends i items))
      ∙ (ap (λ (ss : List StructDecl). struct_named ss name) (structs_append before (drop i items)) ∙ find_front (λ it. bytes_eq it.name name) (structs_of before) (structs_of (drop i items)) x h))

  function_up : (name : List ℕ) → Up (function_named (functions_of before) name) (function_named p.functions name)
  function_up name x h =
      (alike_items surface items form).functions name
      ∙ (ap (λ (xs : List ItemTree). function_named (functions_of xs) name) (sym (both_ends i items))
      ∙ (ap (λ (ss : List Function). function_named ss name) (functions_append before (drop i items)) ∙ find_front (λ it. bytes_eq it.name name) (functions_of before) (functions_of (drop i items)) x h))

  text_up : (name : List ℕ) (t : TextDecl) → find (λ it. bytes_eq it.name name) (texts_of before) ≡ Some t → find (λ it. bytes_eq it.name name) p.texts ≡ Some t
  text_up name t h =
      ap (λ (xs : List ItemTree). find (λ it. bytes_eq it.name name) (texts_of xs)) (sym (both_ends i items))
      ∙ (ap (λ (ss : List TextDecl). find (λ it. bytes_eq it.name name) ss) (texts_append before (drop i items)) ∙ find_front (λ it. bytes_eq it.name name) (texts_of before) (texts_of (drop i items)) t h)

  -- No parameter or local has the name of a string.
  no_name : (name : List ℕ) (t : TextDecl) → find (λ it. bytes_eq it.name name) p.texts ≡ Some t → (o : Option ParamTree) → find (λ it. bytes_eq it.name name) (names_of f) ≡ o → o ≡ None
  no_name name t h None e = refl
  no_name name t h (Some q) e =
      let a = find_is (λ (it : ParamTree). bytes_eq it.name name) (names_of f) q e in
      let b = find_is (λ (it : TextDecl). bytes_eq it.name name) p.texts t h in
      let same : q.name ≡ t.name = (bytes_eq-Decides q.name name).0 a.1 ∙ sym ((bytes_eq-Decides t.name name).0 b.1) in
      absurd (own_name q a.0 (subst (λ (n : List ℕ). Has (map item_name items) n) (sym same) (text_has items b.0.0 t b.0.1)))

  variable_up : (known more : List ParamTree) → names_of f ≡ known ++ more → (name : List ℕ) → Up (variable_held (scope_of before known) name) (variable_held (scope_in p f) name)
  variable_up known more is name held h = by (find (λ it. bytes_eq it.name name) known) refl (find (λ it. bytes_eq it.name name) (texts_of before)) refl
    where
      by : (o : Option ParamTree) → find (λ it. bytes_eq it.name name) known ≡ o → (u : Option TextDecl) → find (λ it. bytes_eq it.name name) (texts_of before) ≡ u → variable_held (scope_in p f) name ≡ Some held
      by (Some q) a u b =
          let low : variable_held (scope_of before known) name ≡ Some (one q.kind) = rw a refl in
          let there : find (λ (it : ParamTree). bytes_eq it.name name) (names_of f) ≡ Some q = ap (λ (xs : List ParamTree). find (λ it. bytes_eq it.name name) xs) is ∙ find_front (λ it. bytes_eq it.name name) known more q a in
          let high : variable_held (scope_in p f) name ≡ Some (one q.kind) = rw there refl in
          high ∙ (sym low ∙ h)
      by None a (Some t) b =
          let low : variable_held (scope_of before known) name ≡ Some characters = rw (a, b) refl in
          let there = text_up name t b in
          let none = no_name name t there (find (λ it. bytes_eq it.name name) (names_of f)) refl in
          let high : variable_held (scope_in p f) name ≡ Some characters = rw (none, there) refl in
          high ∙ (sym low ∙ h)
      by None a None b =
          let low : variable_held (scope_of before known) name ≡ None = rw (a, b) refl in
          absurd (cc (low, h))

  pub extends : (known more : List ParamTree) → names_of f ≡ known ++ more → Extends (scope_of before known) (scope_in p f)
  extends known more is = record { structs = struct_up; functions = function_up; variables = variable_up known more is }

-- Numbers of functions.
number_either : (b : Bool) (n : ℕ) (o : Option ℕ) → Is o → Is (if b then Some n else o)
number_either true n o h = (n, refl)
number_either false n o h = h

number_left : (fs gs : List Function) (name : List ℕ) → Is (function_number fs name) → Is (function_number (fs ++ gs) name)
number_left [] gs name h = absurd (let e = h.1 in cc e)
number_left (f ∷ fs) gs name h = by (bytes_eq f.name name) h (number_left fs gs name)
  where
    by : (b : Bool) → Is (if b then Some (length fs) else function_number fs name) → (Is (function_number fs name) → Is (function_number (fs ++ gs) name)) → Is (if b then Some (length (fs ++ gs)) else function_number (fs ++ gs) name)
    by true h more = (length (fs ++ gs), refl)
    by false h more = more h

number_right : (fs gs : List Function) (name : List ℕ) → Is (function_number gs name) → Is (function_number (fs ++ gs) name)
number_right [] gs name h = h
number_right (f ∷ fs) gs name h = number_either (bytes_eq f.name name) (length (fs ++ gs)) (function_number (fs ++ gs) name) (number_right fs gs name h)

pub number_of_named : (fs : List Function) (name : List ℕ) (g : Function) → function_named fs name ≡ Some g → Is (function_number (reverse fs) name)
number_of_named [] name g e = absurd (cc e)
number_of_named (f ∷ fs) name g e = subst (λ (gs : List Function). Is (function_number gs name)) (sym (reverse-append (f ∷ []) fs)) (by (bytes_eq f.name name) refl e (number_of_named fs name g))
  where
    by : (b : Bool) → bytes_eq f.name name ≡ b → (if b then Some f else function_named fs name) ≡ Some g → (function_named fs name ≡ Some g → Is (function_number (reverse fs) name)) → Is (function_number (reverse fs ++ f ∷ []) name)
    by true h e more = number_right (reverse fs) (f ∷ []) name (0, ap (λ (b : Bool). if b then Some 0 else None) h)
    by false h e more = number_left (reverse fs) (f ∷ []) name (more e)

-- A function that stands later has no cells in the table of those before it.
past_end : (table : List ℕ) (n : ℕ) → cells_at table (n + length table) ≡ 0
past_end [] n = refl
past_end (x ∷ table) n =
    let e : n + length (x ∷ table) ≡ suc (n + length table) = omega arith in
    ap (cells_at (x ∷ table)) e ∙ past_end table n

as_numbered : (table : List ℕ) (others fs : List Function) (name : List ℕ) → length table ≡ length fs → AreApart (others ++ fs) → numbered table (function_number (others ++ fs) name) ≡ numbered table (function_number fs name)
as_numbered table [] fs name long apart = refl
as_numbered table (a ∷ others) fs name long apart = by (bytes_eq a.name name) refl (as_numbered table others fs name long apart.1)
  where
    by : (b : Bool) → bytes_eq a.name name ≡ b → numbered table (function_number (others ++ fs) name) ≡ numbered table (function_number fs name) → numbered table (if b then Some (length (others ++ fs)) else function_number (others ++ fs) name) ≡ numbered table (function_number fs name)
    by true h later =
        let same : a.name ≡ name = (bytes_eq-Decides a.name name).0 h in
        let none : function_number fs name ≡ None = subst (λ (n : List ℕ). function_number fs n ≡ None) same (none_in others fs a.name apart.0) in
        let far : length (others ++ fs) ≡ length others + length table = length-append others fs ∙ ap (λ (n : ℕ). length others + n) (sym long) in
        ap (cells_at table) far ∙ (past_end table (length others) ∙ sym (ap (numbered table) none))
    by false h later = later

-- The locals' initial values.
module _ (surface : Surface) (items : List ItemTree) (form : HasUnitForm surface items) (f : Function) (i : ℕ) (own_name : (it : ParamTree) → Has (names_of f) it → Has (map item_name items) it.name → ⊥) where
  initial_has : (known more : List ParamTree) (l : LocalTree) → names_of f ≡ known ++ more → MayBegin (scope_of (take i items) known) l.kind l.initial → HasInitial (scope_in (program_of items) f) l.initial
  initial_has known more l is h = by l.initial h
    where
      by : (o : Option ExprTree) → MayBegin (scope_of (take i items) known) l.kind o → HasInitial (scope_in (program_of items) f) o
      by None h = tt
      by (Some e) h = (h.0, (rises (scope_of (take i items) known) (scope_in (program_of items) f) (extends surface items form f i own_name known more is)).types e h.0 h.1)

  initials_have : (done ls : List LocalTree) → f.locals ≡ done ++ ls → Each (λ n l. KeepsLocal (take i items) (own_names f.params (take n f.locals)) l) f.locals → HaveInitials (scope_in (program_of items) f) ls
  initials_have done [] is h = tt
  initials_have done (l ∷ ls) is h =
      let there : At f.locals (length done) l = ap (λ (xs : List LocalTree). slice_get xs (length done)) is ∙ get_at done l ls in
      let front : take (length done) f.locals ≡ done = ap (take (length done)) is ∙ take_at done (l ∷ ls) (length done) refl in
      let kept = subst (λ (xs : List LocalTree). KeepsLocal (take i items) (own_names f.params xs) l) front (h (length done) l there) in (
        initial_has (f.params ++ map local_name done) (map local_name (l ∷ ls)) l (ap (λ (xs : List LocalTree). f.params ++ map local_name xs) is ∙ (ap (λ (xs : List ParamTree). f.params ++ xs) (map_both done (l ∷ ls)) ∙ sym (append_assoc f.params (map local_name done) (map local_name (l ∷ ls))))) kept.1,
        initials_have (done ++ l ∷ []) ls (is ∙ sym (append_assoc done (l ∷ []) ls)) h,
      )
    where
      map_both : (xs ys : List LocalTree) → map local_name (xs ++ ys) ≡ map local_name xs ++ map local_name ys
      map_both [] ys = refl
      map_both (x ∷ xs) ys = ap (λ zs. local_name x ∷ zs) (map_both xs ys)

  pub all_initials_have : Each (λ n l. KeepsLocal (take i items) (own_names f.params (take n f.locals)) l) f.locals → HaveInitials (scope_in (program_of items) f) f.locals
  all_initials_have h = initials_have [] f.locals refl h

-- What a function of a text calls, by the table of those before it.
pub calls_by_tree : (surface : Surface) (items : List ItemTree) → HasUnitForm surface items → (after : List Function) (f : Function) (fs : List Function) → (program_of items).functions ≡ after ++ f ∷ fs → (table : List ℕ) → length table ≡ length fs
    → called_cells (code_of (program_of items) (program_of items).functions) table (length fs) ≡ greatest (λ name. numbered table (function_number fs name)) (callees f)
calls_by_tree surface items form after f fs is table long =
    let it = is_item items after f fs is in
    let kept = (form_is_kept surface items).1 form in
    let rules = kept_function (take it.i items) (map item_name items) f (kept.each it.i (item_of f) it.there).own in
    let own_name : (q : ParamTree) → Has (names_of f) q → Has (map item_name items) q.name → ⊥ = λ q has among. (rules.names_own has.0 q has.1).0 among in
    let whole : names_of f ≡ names_of f ++ [] = sym (append-nil (names_of f)) in
    let low = checked (take it.i items) f.linkage f.result_type (names_of f) f.body in
    let up = rises low.scope (scope_in (program_of items) f) (extends surface items form f it.i own_name (names_of f) [] whole) in
    let others : (program_of items).functions ≡ (after ++ f ∷ []) ++ fs = is ∙ sym (append_assoc after (f ∷ []) fs) in
    let apart = subst AreApart others (functions_apart surface items form) in
    let are : AreNumbered table (λ name. numbered table (function_number fs name)) (names_in (own (program_of items) f fs (code_of (program_of items) fs))) low.scope = record {
      in_expressions = λ name. ap (λ (gs : List Function). numbered table (function_number gs name)) others ∙ as_numbered table (after ++ f ∷ []) fs name long apart;
      in_statements = λ name. refl;
      known = λ name g e. subst (λ (gs : List Function). Is (function_number gs name)) (sym it.before) (number_of_named (functions_of (take it.i items)) name g e);
    } in
    function_is (program_of items) (code_of (program_of items) (program_of items).functions) f fs (part_of (program_of items) after f fs is) table (λ name. numbered table (function_number fs name)) low refl up are
    (λ l has. (statements f.body, has.0, rules.statements_kept has.0 l has.1)) (all_initials_have surface items form f it.i own_name rules.locals_kept)
