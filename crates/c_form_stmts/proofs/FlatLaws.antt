-- The statements of a body in the order of the text, with what follows them: what they ask and which labels they are.
use Rattle.std.proofs.Common.{◌≡◌, ◌<◌, ◌+◌, ℕ, zero, suc, Bool, true, false, ◌&&◌, ◌||◌, List, [], ◌∷◌, ◌++◌, map, find, Option, Some, None, refl, sym, ◌∙◌, ap, subst, arith, nat_lt}
use Rattle.std.specs.List.{slice_get, list_all}
use Rattle.std.specs.Option.{option_or, MatchOption}
use Rattle.std.specs.Str.{bytes_eq}
use Rattle.std.proofs.lemmas.Bool.{lt-ltb}
use Rattle.std.proofs.lemmas.Bool.Decides.{nat_tests}
use Rattle.std.proofs.lemmas.List.{map-append}
use Rattle.std.proofs.lemmas.List.Folds.{list_all-append, find-append}
use Rattle.c_text.specs.CTree.{ExprTree, TypeTree, Args, Code, finish, nested, empty, assign, call, jump, branch, repeat, select, leave, case_label, default_label, name_label}
use Rattle.c_meaning.specs.CTypes.{Function, type_of, held_of, function_named, arg_types}
use Rattle.c_meaning.specs.CStep.{Continuation, stop, behind, again, Place, at, place_weight, by_name, find as find_label, first_of, here, Callee, memory_move, memory_set, own, callee_of}
use Rattle.c_meaning.specs.TextOrder.{statements}
use Rattle.c_meaning.specs.UnitForm.{Checked, has_type, is_number, may_assign, is_called, formed_call, may_loop, formed_jump, formed_return, cases_of, formed_cases, formed_code, labels_of, all_distinct}
use Rattle.c_meaning.proofs.Text.{text_falls}
use Rattle.c_form_exprs.specs.Tables.{named}
use Rattle.c_form_stmts.specs.Functions.{formed_body}
use Rattle.c_form_stmts.specs.Lines.{LineTree, line, lines_of}
use Rattle.c_form_stmts.specs.Statements.{label_of, label_names, is_label, label_at, goes_to, formed_line, formed_lines}

-- A statement with what follows it, and whether a `switch` stands round it.
pub record Placed : Type 0 where
  pub place : Place
  pub switched : Bool

abbrev pub put : Bool → Code → Continuation → Placed
put s code k = record { place = at code k; switched = s }

abbrev pub placed : Bool → Code → Continuation → List Placed
placed s finish k = []
placed s (nested body rest) k = put s (nested body rest) k ∷ placed s body (behind finish rest k) ++ placed s rest k
placed s (empty rest) k = put s (empty rest) k ∷ placed s rest k
placed s (assign target value rest) k = put s (assign target value rest) k ∷ placed s rest k
placed s (call target function given rest) k = put s (call target function given rest) k ∷ placed s rest k
placed s (jump label rest) k = put s (jump label rest) k ∷ placed s rest k
placed s (branch test body otherwise other rest) k = put s (branch test body otherwise other rest) k ∷ placed s body (behind other rest k) ++ (placed s other (behind finish rest k) ++ placed s rest k)
placed s (repeat test body rest) k = put s (repeat test body rest) k ∷ placed s body (again test body (behind finish rest k)) ++ placed s rest k
placed s (select on body rest) k = put s (select on body rest) k ∷ placed true body (behind finish rest k) ++ placed s rest k
placed s (leave value rest) k = put s (leave value rest) k ∷ placed s rest k
placed s (case_label n rest) k = put s (case_label n rest) k ∷ placed s rest k
placed s (default_label rest) k = put s (default_label rest) k ∷ placed s rest k
placed s (name_label name rest) k = put s (name_label name rest) k ∷ placed s rest k

abbrev pub place_line : Placed → LineTree
place_line p = line p.switched p.place.code

pub lines_placed : (s : Bool) (code : Code) (k : Continuation) → map place_line (placed s code k) ≡ lines_of true s code
lines_placed s finish k = refl
lines_placed s (nested body rest) k = ap (λ xs. line s (nested body rest) ∷ xs) (map-append place_line (placed s body (behind finish rest k)) (placed s rest k) ∙ (ap (λ xs. xs ++ map place_line (placed s rest k)) (lines_placed s body (behind finish rest k)) ∙ ap (λ xs. lines_of true s body ++ xs) (lines_placed s rest k)))
lines_placed s (empty rest) k = ap (λ xs. line s (empty rest) ∷ xs) (lines_placed s rest k)
lines_placed s (assign target value rest) k = ap (λ xs. line s (assign target value rest) ∷ xs) (lines_placed s rest k)
lines_placed s (call target function given rest) k = ap (λ xs. line s (call target function given rest) ∷ xs) (lines_placed s rest k)
lines_placed s (jump label rest) k = ap (λ xs. line s (jump label rest) ∷ xs) (lines_placed s rest k)
lines_placed s (branch test body otherwise other rest) k = ap (λ xs. line s (branch test body otherwise other rest) ∷ xs) (map-append place_line (placed s body (behind other rest k)) (placed s other (behind finish rest k) ++ placed s rest k) ∙ (ap (λ xs. xs ++ map place_line (placed s other (behind finish rest k) ++ placed s rest k)) (lines_placed s body (behind other rest k)) ∙ ap (λ xs. lines_of true s body ++ xs) (map-append place_line (placed s other (behind finish rest k)) (placed s rest k) ∙ (ap (λ xs. xs ++ map place_line (placed s rest k)) (lines_placed s other (behind finish rest k)) ∙ ap (λ xs. lines_of true s other ++ xs) (lines_placed s rest k)))))
lines_placed s (repeat test body rest) k = ap (λ xs. line s (repeat test body rest) ∷ xs) (map-append place_line (placed s body (again test body (behind finish rest k))) (placed s rest k) ∙ (ap (λ xs. xs ++ map place_line (placed s rest k)) (lines_placed s body (again test body (behind finish rest k))) ∙ ap (λ xs. lines_of true s body ++ xs) (lines_placed s rest k)))
lines_placed s (select on body rest) k = ap (λ xs. line s (select on body rest) ∷ xs) (map-append place_line (placed true body (behind finish rest k)) (placed s rest k) ∙ (ap (λ xs. xs ++ map place_line (placed s rest k)) (lines_placed true body (behind finish rest k)) ∙ ap (λ xs. lines_of true true body ++ xs) (lines_placed s rest k)))
lines_placed s (leave value rest) k = ap (λ xs. line s (leave value rest) ∷ xs) (lines_placed s rest k)
lines_placed s (case_label n rest) k = ap (λ xs. line s (case_label n rest) ∷ xs) (lines_placed s rest k)
lines_placed s (default_label rest) k = ap (λ xs. line s (default_label rest) ∷ xs) (lines_placed s rest k)
lines_placed s (name_label name rest) k = ap (λ xs. line s (name_label name rest) ∷ xs) (lines_placed s rest k)

pub statements_placed : (s : Bool) (code : Code) (k : Continuation) → map (λ p. p.place) (placed s code k) ≡ statements code k
statements_placed s finish k = refl
statements_placed s (nested body rest) k = ap (λ xs. at (nested body rest) k ∷ xs) (map-append (λ (p : Placed). p.place) (placed s body (behind finish rest k)) (placed s rest k) ∙ (ap (λ xs. xs ++ map (λ (p : Placed). p.place) (placed s rest k)) (statements_placed s body (behind finish rest k)) ∙ ap (λ xs. statements body (behind finish rest k) ++ xs) (statements_placed s rest k)))
statements_placed s (empty rest) k = ap (λ xs. at (empty rest) k ∷ xs) (statements_placed s rest k)
statements_placed s (assign target value rest) k = ap (λ xs. at (assign target value rest) k ∷ xs) (statements_placed s rest k)
statements_placed s (call target function given rest) k = ap (λ xs. at (call target function given rest) k ∷ xs) (statements_placed s rest k)
statements_placed s (jump label rest) k = ap (λ xs. at (jump label rest) k ∷ xs) (statements_placed s rest k)
statements_placed s (branch test body otherwise other rest) k = ap (λ xs. at (branch test body otherwise other rest) k ∷ xs) (map-append (λ (p : Placed). p.place) (placed s body (behind other rest k)) (placed s other (behind finish rest k) ++ placed s rest k) ∙ (ap (λ xs. xs ++ map (λ (p : Placed). p.place) (placed s other (behind finish rest k) ++ placed s rest k)) (statements_placed s body (behind other rest k)) ∙ ap (λ xs. statements body (behind other rest k) ++ xs) (map-append (λ (p : Placed). p.place) (placed s other (behind finish rest k)) (placed s rest k) ∙ (ap (λ xs. xs ++ map (λ (p : Placed). p.place) (placed s rest k)) (statements_placed s other (behind finish rest k)) ∙ ap (λ xs. statements other (behind finish rest k) ++ xs) (statements_placed s rest k)))))
statements_placed s (repeat test body rest) k = ap (λ xs. at (repeat test body rest) k ∷ xs) (map-append (λ (p : Placed). p.place) (placed s body (again test body (behind finish rest k))) (placed s rest k) ∙ (ap (λ xs. xs ++ map (λ (p : Placed). p.place) (placed s rest k)) (statements_placed s body (again test body (behind finish rest k))) ∙ ap (λ xs. statements body (again test body (behind finish rest k)) ++ xs) (statements_placed s rest k)))
statements_placed s (select on body rest) k = ap (λ xs. at (select on body rest) k ∷ xs) (map-append (λ (p : Placed). p.place) (placed true body (behind finish rest k)) (placed s rest k) ∙ (ap (λ xs. xs ++ map (λ (p : Placed). p.place) (placed s rest k)) (statements_placed true body (behind finish rest k)) ∙ ap (λ xs. statements body (behind finish rest k) ++ xs) (statements_placed s rest k)))
statements_placed s (leave value rest) k = ap (λ xs. at (leave value rest) k ∷ xs) (statements_placed s rest k)
statements_placed s (case_label n rest) k = ap (λ xs. at (case_label n rest) k ∷ xs) (statements_placed s rest k)
statements_placed s (default_label rest) k = ap (λ xs. at (default_label rest) k ∷ xs) (statements_placed s rest k)
statements_placed s (name_label name rest) k = ap (λ xs. at (name_label name rest) k ∷ xs) (statements_placed s rest k)

-- What a statement asks by itself, at its place.
abbrev pub formed_place : Checked → Placed → Bool
formed_place c p = by_code p.place.code
  where
    by_code : Code → Bool
    by_code finish = true
    by_code (nested body rest) = true
    by_code (empty rest) = true
    by_code (assign target value rest) = may_assign (held_of c.scope target) (type_of c.scope value)
    by_code (call target function given rest) = formed_call (callee_of function) c target function given
    by_code (jump label rest) = formed_jump c p.place (find_label (by_name label) c.body stop)
    by_code (branch test body otherwise other rest) = has_type c test
    by_code (repeat test body rest) = may_loop c.linkage && has_type c test
    by_code (select on body rest) = is_number (type_of c.scope on) && formed_cases (cases_of body)
    by_code (leave value rest) = formed_return c value c.result_type
    by_code (case_label n rest) = p.switched
    by_code (default_label rest) = p.switched
    by_code (name_label name rest) = true

and_in : (a b c : Bool) → (a && (b && c)) ≡ ((a && b) && c)
and_in true b c = refl
and_in false b c = refl

pub formed_placed : (c : Checked) (s : Bool) (code : Code) (k : Continuation) → formed_code c s code k ≡ list_all (formed_place c) (placed s code k)
formed_placed c s finish k = refl
formed_placed c s (nested body rest) k = ap (λ b. b && formed_code c s rest k) (formed_placed c s body (behind finish rest k)) ∙ (ap (λ b. list_all (formed_place c) (placed s body (behind finish rest k)) && b) (formed_placed c s rest k) ∙ sym (list_all-append (formed_place c) (placed s body (behind finish rest k)) (placed s rest k)))
formed_placed c s (empty rest) k = formed_placed c s rest k
formed_placed c s (assign target value rest) k = ap (λ b. may_assign (held_of c.scope target) (type_of c.scope value) && b) (formed_placed c s rest k)
formed_placed c s (call target function given rest) k = ap (λ b. formed_call (callee_of function) c target function given && b) (formed_placed c s rest k)
formed_placed c s (jump label rest) k = ap (λ b. formed_jump c (at (jump label rest) k) (find_label (by_name label) c.body stop) && b) (formed_placed c s rest k)
formed_placed c s (branch test body otherwise other rest) k = ap (λ b. has_type c test && b) (ap (λ b. b && (formed_code c s other (behind finish rest k) && formed_code c s rest k)) (formed_placed c s body (behind other rest k)) ∙ (ap (λ b. list_all (formed_place c) (placed s body (behind other rest k)) && b) (ap (λ b. b && formed_code c s rest k) (formed_placed c s other (behind finish rest k)) ∙ (ap (λ b. list_all (formed_place c) (placed s other (behind finish rest k)) && b) (formed_placed c s rest k) ∙ sym (list_all-append (formed_place c) (placed s other (behind finish rest k)) (placed s rest k)))) ∙ sym (list_all-append (formed_place c) (placed s body (behind other rest k)) (placed s other (behind finish rest k) ++ placed s rest k))))
formed_placed c s (repeat test body rest) k = and_in (may_loop c.linkage) (has_type c test) (formed_code c s body (again test body (behind finish rest k)) && formed_code c s rest k) ∙ ap (λ b. (may_loop c.linkage && has_type c test) && b) (ap (λ b. b && formed_code c s rest k) (formed_placed c s body (again test body (behind finish rest k))) ∙ (ap (λ b. list_all (formed_place c) (placed s body (again test body (behind finish rest k))) && b) (formed_placed c s rest k) ∙ sym (list_all-append (formed_place c) (placed s body (again test body (behind finish rest k))) (placed s rest k))))
formed_placed c s (select on body rest) k = and_in (is_number (type_of c.scope on)) (formed_cases (cases_of body)) (formed_code c true body (behind finish rest k) && formed_code c s rest k) ∙ ap (λ b. (is_number (type_of c.scope on) && formed_cases (cases_of body)) && b) (ap (λ b. b && formed_code c s rest k) (formed_placed c true body (behind finish rest k)) ∙ (ap (λ b. list_all (formed_place c) (placed true body (behind finish rest k)) && b) (formed_placed c s rest k) ∙ sym (list_all-append (formed_place c) (placed true body (behind finish rest k)) (placed s rest k))))
formed_placed c s (leave value rest) k = ap (λ b. formed_return c value c.result_type && b) (formed_placed c s rest k)
formed_placed c s (case_label n rest) k = ap (λ b. s && b) (formed_placed c s rest k)
formed_placed c s (default_label rest) k = ap (λ b. s && b) (formed_placed c s rest k)
formed_placed c s (name_label name rest) k = formed_placed c s rest k

-- The place that a label is found at is the first statement that is this label.
abbrev pub stands_for : List ℕ → Place → Bool
stands_for name p = is_label name (label_of p.code)

first_or : (a b : Option Place) → first_of a b ≡ option_or a b
first_or None b = refl
first_or (Some p) b = refl

here_or : (b : Bool) (p : Place) (ps : List Place) (name : List ℕ) → stands_for name p ≡ b → here b p (find (stands_for name) ps) ≡ find (stands_for name) (p ∷ ps)
here_or true p ps name is = rw is refl
here_or false p ps name is = rw is refl

pub find_first : (name : List ℕ) (code : Code) (k : Continuation) → find_label (by_name name) code k ≡ find (stands_for name) (statements code k)
find_first name finish k = refl
find_first name (nested body rest) k = ap (λ o. first_of o (find_label (by_name name) rest k)) (find_first name body (behind finish rest k)) ∙ (ap (first_of (find (stands_for name) (statements body (behind finish rest k)))) (find_first name rest k) ∙ (first_or (find (stands_for name) (statements body (behind finish rest k))) (find (stands_for name) (statements rest k)) ∙ sym (find-append (stands_for name) (statements body (behind finish rest k)) (statements rest k))))
find_first name (empty rest) k = find_first name rest k
find_first name (assign target value rest) k = find_first name rest k
find_first name (call target function given rest) k = find_first name rest k
find_first name (jump label rest) k = find_first name rest k
find_first name (branch test body otherwise other rest) k = ap (λ o. first_of o (first_of (find_label (by_name name) other (behind finish rest k)) (find_label (by_name name) rest k))) (find_first name body (behind other rest k)) ∙ (ap (first_of (find (stands_for name) (statements body (behind other rest k)))) (ap (λ o. first_of o (find_label (by_name name) rest k)) (find_first name other (behind finish rest k)) ∙ (ap (first_of (find (stands_for name) (statements other (behind finish rest k)))) (find_first name rest k) ∙ (first_or (find (stands_for name) (statements other (behind finish rest k))) (find (stands_for name) (statements rest k)) ∙ sym (find-append (stands_for name) (statements other (behind finish rest k)) (statements rest k))))) ∙ (first_or (find (stands_for name) (statements body (behind other rest k))) (find (stands_for name) (statements other (behind finish rest k) ++ statements rest k)) ∙ sym (find-append (stands_for name) (statements body (behind other rest k)) (statements other (behind finish rest k) ++ statements rest k))))
find_first name (repeat test body rest) k = ap (λ o. first_of o (find_label (by_name name) rest k)) (find_first name body (again test body (behind finish rest k))) ∙ (ap (first_of (find (stands_for name) (statements body (again test body (behind finish rest k))))) (find_first name rest k) ∙ (first_or (find (stands_for name) (statements body (again test body (behind finish rest k)))) (find (stands_for name) (statements rest k)) ∙ sym (find-append (stands_for name) (statements body (again test body (behind finish rest k))) (statements rest k))))
find_first name (select on body rest) k = ap (λ o. first_of o (find_label (by_name name) rest k)) (find_first name body (behind finish rest k)) ∙ (ap (first_of (find (stands_for name) (statements body (behind finish rest k)))) (find_first name rest k) ∙ (first_or (find (stands_for name) (statements body (behind finish rest k))) (find (stands_for name) (statements rest k)) ∙ sym (find-append (stands_for name) (statements body (behind finish rest k)) (statements rest k))))
find_first name (leave value rest) k = find_first name rest k
find_first name (case_label n rest) k = find_first name rest k
find_first name (default_label rest) k = find_first name rest k
find_first name (name_label label rest) k = ap (here (bytes_eq name label) (at (name_label label rest) k)) (find_first name rest k) ∙ here_or (bytes_eq name label) (at (name_label label rest) k) (statements rest k) name refl

-- The labels of a body, in order.
names_append : (xs ys : List LineTree) → label_names (xs ++ ys) ≡ label_names xs ++ label_names ys
names_append [] ys = refl
names_append (x ∷ xs) ys = by (label_of x.code) refl (names_append xs ys)
  where
    by : (o : Option (List ℕ)) → label_of x.code ≡ o → label_names (xs ++ ys) ≡ label_names xs ++ label_names ys → label_names (x ∷ (xs ++ ys)) ≡ label_names (x ∷ xs) ++ label_names ys
    by None is rest = rw is rest
    by (Some name) is rest = rw is (ap (λ zs. name ∷ zs) rest)

pub labels_listed : (s : Bool) (code : Code) → labels_of code ≡ label_names (lines_of true s code)
labels_listed s finish = refl
labels_listed s (nested body rest) = ap (λ xs. xs ++ labels_of rest) (labels_listed s body) ∙ (ap (λ xs. label_names (lines_of true s body) ++ xs) (labels_listed s rest) ∙ sym (names_append (lines_of true s body) (lines_of true s rest)))
labels_listed s (empty rest) = labels_listed s rest
labels_listed s (assign target value rest) = labels_listed s rest
labels_listed s (call target function given rest) = labels_listed s rest
labels_listed s (jump label rest) = labels_listed s rest
labels_listed s (branch test body otherwise other rest) = ap (λ xs. xs ++ (labels_of other ++ labels_of rest)) (labels_listed s body) ∙ (ap (λ xs. label_names (lines_of true s body) ++ xs) (ap (λ xs. xs ++ labels_of rest) (labels_listed s other) ∙ (ap (λ xs. label_names (lines_of true s other) ++ xs) (labels_listed s rest) ∙ sym (names_append (lines_of true s other) (lines_of true s rest)))) ∙ sym (names_append (lines_of true s body) (lines_of true s other ++ lines_of true s rest)))
labels_listed s (repeat test body rest) = ap (λ xs. xs ++ labels_of rest) (labels_listed s body) ∙ (ap (λ xs. label_names (lines_of true s body) ++ xs) (labels_listed s rest) ∙ sym (names_append (lines_of true s body) (lines_of true s rest)))
labels_listed s (select on body rest) = ap (λ xs. xs ++ labels_of rest) (labels_listed true body) ∙ (ap (λ xs. label_names (lines_of true true body) ++ xs) (labels_listed s rest) ∙ sym (names_append (lines_of true true body) (lines_of true s rest)))
labels_listed s (leave value rest) = labels_listed s rest
labels_listed s (case_label n rest) = labels_listed s rest
labels_listed s (default_label rest) = labels_listed s rest
labels_listed s (name_label name rest) = ap (λ xs. name ∷ xs) (labels_listed s rest)

-- A place in a list by its number, where `i` is the first one's.
pub record Numbered (name : List ℕ) (i : ℕ) (ps : List Placed) (p : Place) (j : ℕ) : Type 0 where
  pub number : ℕ
  pub is : j ≡ i + number
  pub stands : slice_get (map (λ p. p.place) ps) number ≡ Some p

abbrev pub SameLabel : List ℕ → ℕ → List Placed → Option Place → Option ℕ → Type 0
SameLabel name i ps None None = Unit {0}
SameLabel name i ps (Some p) (Some j) = Numbered name i ps p j
SameLabel name i ps p j = ⊥

later : (name : List ℕ) (i : ℕ) (x : Placed) (ps : List Placed) (p : Option Place) (j : Option ℕ) → SameLabel name (i + 1) ps p j → SameLabel name i (x ∷ ps) p j
later name i x ps None None h = tt
later name i x ps None (Some j) h = absurd h
later name i x ps (Some p) None h = absurd h
later name i x ps (Some p) (Some j) h = record { number = suc h.number; is = (let e = h.is in omega (arith, e)); stands = h.stands }

pub same_label : (name : List ℕ) (i : ℕ) (ps : List Placed) → SameLabel name i ps (find (stands_for name) (map (λ p. p.place) ps)) (label_at i (map place_line ps) name)
same_label name i [] = tt
same_label name i (x ∷ ps) = by (stands_for name x.place) refl (same_label name (i + 1) ps)
  where
    by : (b : Bool) → stands_for name x.place ≡ b → SameLabel name (i + 1) ps (find (stands_for name) (map (λ p. p.place) ps)) (label_at (i + 1) (map place_line ps) name) → SameLabel name i (x ∷ ps) (find (stands_for name) (map (λ p. p.place) (x ∷ ps))) (label_at i (map place_line (x ∷ ps)) name)
    by true is rest = rw is (record { number = 0; is = omega arith; stands = refl })
    by false is rest = rw is (later name i x ps (find (stands_for name) (map (λ p. p.place) ps)) (label_at (i + 1) (map place_line ps) name) rest)

-- Of two statements of a body the later one has less text left.
not_less : (a b : ℕ) → a < b → nat_lt b a ≡ false
not_less a b h = grind (arith, nat_tests)

less_false : (i j : ℕ) → j < i → nat_lt i j ≡ false
less_false i j h = grind (arith, nat_tests)

self_false : (a : ℕ) → nat_lt a a ≡ false
self_false a = grind (arith, nat_tests)

some_same : {A : Type 0} (o : Option A) (a b : A) → o ≡ Some a → o ≡ Some b → a ≡ b
some_same o a b h k = cc (h, k)

pub data Order : ℕ → ℕ → Type 0 where
  below : (i j : ℕ) → i < j → Order i j
  same : (i j : ℕ) → i ≡ j → Order i j
  above : (i j : ℕ) → j < i → Order i j

pub order : (i j : ℕ) → Order i j
order zero zero = same zero zero refl
order zero (suc j) = below zero (suc j) (omega arith)
order (suc i) zero = above (suc i) zero (omega arith)
order (suc i) (suc j) = up (order i j)
  where
    up : Order i j → Order (suc i) (suc j)
    up (below _ _ h) = below (suc i) (suc j) (omega (arith, h))
    up (same _ _ h) = same (suc i) (suc j) (ap suc h)
    up (above _ _ h) = above (suc i) (suc j) (omega (arith, h))

pub text_order : (code : Code) (k : Continuation) (i j : ℕ) (p q : Place) → slice_get (statements code k) i ≡ Some p → slice_get (statements code k) j ≡ Some q → nat_lt (place_weight q) (place_weight p) ≡ nat_lt i j
text_order code k i j p q e f = by (order i j)
  where
    by : Order i j → nat_lt (place_weight q) (place_weight p) ≡ nat_lt i j
    by (below _ _ h) = lt-ltb (place_weight q) (place_weight p) (text_falls code k i j p q e f h) ∙ sym (lt-ltb i j h)
    by (same _ _ h) =
        let one : p ≡ q = some_same (slice_get (statements code k) j) p q (ap (slice_get (statements code k)) (sym h) ∙ e) f in
        rw (one, h) (self_false (place_weight q) ∙ sym (self_false j))
    by (above _ _ h) = not_less (place_weight p) (place_weight q) (text_falls code k j i q p f e h) ∙ sym (less_false i j h)

zero_plus : (n : ℕ) → 0 + n ≡ n
zero_plus n = omega arith

-- A `goto` by numbers.
pub jump_at : (c : Checked) (i : ℕ) (p : Place) (name : List ℕ) → slice_get (statements c.body stop) i ≡ Some p → formed_jump c p (find_label (by_name name) c.body stop) ≡ goes_to c.linkage i (label_at 0 (lines_of true false c.body) name)
jump_at c i p name from =
    let found : find_label (by_name name) c.body stop ≡ find (stands_for name) (map (λ p. p.place) (placed false c.body stop)) = find_first name c.body stop ∙ ap (find (stands_for name)) (sym (statements_placed false c.body stop)) in
    let numbered : label_at 0 (map place_line (placed false c.body stop)) name ≡ label_at 0 (lines_of true false c.body) name = ap (λ ls. label_at 0 ls name) (lines_placed false c.body stop) in
    ap (formed_jump c p) found ∙ (by (find (stands_for name) (map (λ p. p.place) (placed false c.body stop))) (label_at 0 (map place_line (placed false c.body stop)) name) (same_label name 0 (placed false c.body stop)) ∙ ap (goes_to c.linkage i) numbered)
  where
    by : (o : Option Place) (n : Option ℕ) → SameLabel name 0 (placed false c.body stop) o n → formed_jump c p o ≡ goes_to c.linkage i n
    by None None h = refl
    by None (Some j) h = absurd h
    by (Some q) None h = absurd h
    by (Some q) (Some j) h =
        let stands : slice_get (statements c.body stop) j ≡ Some q = ap (slice_get (statements c.body stop)) (h.is ∙ zero_plus h.number) ∙ (ap (λ ps. slice_get ps h.number) (sym (statements_placed false c.body stop)) ∙ h.stands) in
        ap (λ b. may_loop c.linkage || b) (text_order c.body stop i j p q from stands)

-- Without its body a statement asks the same.
abbrev pub bodiless : Checked → Checked
bodiless c = record c { body = finish }

call_same : (c : Checked) (callee : Callee) (target : Option ExprTree) (name : List ℕ) (given : Args) → formed_call callee c target name given ≡ formed_call callee (bodiless c) target name given
call_same c memory_move target name given = refl
call_same c memory_set target name given = refl
call_same c own target name given = by (function_named c.scope.functions name) target
  where
    by : (f : Option Function) (t : Option ExprTree) → is_called c t (arg_types c.scope given) f ≡ is_called (bodiless c) t (arg_types c.scope given) f
    by None t = refl
    by (Some f) None = refl
    by (Some f) (Some e) = refl

return_same : (c : Checked) (value : Option ExprTree) (t : Option TypeTree) → formed_return c value t ≡ formed_return (bodiless c) value t
return_same c None None = refl
return_same c None (Some t) = refl
return_same c (Some e) None = refl
return_same c (Some e) (Some t) = refl

-- A statement by its place, and by its number.
pub line_at : (c : Checked) (look : List ℕ → Option ℕ) → ((q : List ℕ) → look q ≡ label_at 0 (lines_of true false c.body) q) → (i : ℕ) (code : Code) (k : Continuation) (s : Bool) → slice_get (statements c.body stop) i ≡ Some (at code k) → formed_place c (put s code k) ≡ formed_line (bodiless c) look i (line s code)
line_at c look looks i finish k s h = refl
line_at c look looks i (nested body rest) k s h = refl
line_at c look looks i (empty rest) k s h = refl
line_at c look looks i (assign target value rest) k s h = refl
line_at c look looks i (call target function given rest) k s h = call_same c (callee_of function) target function given
line_at c look looks i (jump label rest) k s h = jump_at c i (at (jump label rest) k) label h ∙ ap (goes_to c.linkage i) (sym (looks label))
line_at c look looks i (branch test body otherwise other rest) k s h = refl
line_at c look looks i (repeat test body rest) k s h = refl
line_at c look looks i (select on body rest) k s h = refl
line_at c look looks i (leave value rest) k s h = return_same c value c.result_type
line_at c look looks i (case_label n rest) k s h = refl
line_at c look looks i (default_label rest) k s h = refl
line_at c look looks i (name_label name rest) k s h = refl

-- The statements from number `i` on stand in the body.
abbrev StandsFrom : Checked → ℕ → List Placed → Type 0
StandsFrom c i ps = (j : ℕ) (p : Placed) → slice_get ps j ≡ Some p → slice_get (statements c.body stop) (i + j) ≡ Some p.place

stands_later : (c : Checked) (i : ℕ) (x : Placed) (ps : List Placed) → StandsFrom c i (x ∷ ps) → StandsFrom c (i + 1) ps
stands_later c i x ps h j p is = let e : i + 1 + j ≡ i + suc j = omega arith in ap (slice_get (statements c.body stop)) e ∙ h (suc j) p is

all_at : (c : Checked) (look : List ℕ → Option ℕ) → ((q : List ℕ) → look q ≡ label_at 0 (lines_of true false c.body) q) → (i : ℕ) (ps : List Placed) → StandsFrom c i ps → list_all (formed_place c) ps ≡ formed_lines (bodiless c) look i (map place_line ps)
all_at c look looks i [] h = refl
all_at c look looks i (x ∷ ps) h =
    let e : i + 0 ≡ i = omega arith in
    let here : slice_get (statements c.body stop) i ≡ Some x.place = ap (slice_get (statements c.body stop)) (sym e) ∙ h 0 x refl in
    ap (λ b. b && list_all (formed_place c) ps) (line_at c look looks i x.place.code x.place.continuation x.switched here) ∙ ap (λ b. formed_line (bodiless c) look i (place_line x) && b) (all_at c look looks (i + 1) ps (stands_later c i x ps h))

get_place : (ps : List Placed) (j : ℕ) (p : Placed) → slice_get ps j ≡ Some p → slice_get (map (λ q. q.place) ps) j ≡ Some p.place
get_place [] j p h = absurd (cc (h))
get_place (x ∷ ps) zero p h = let e : x ≡ p = cc (h) in ap (λ (q : Placed). Some q.place) e
get_place (x ∷ ps) (suc j) p h = get_place ps j p h

-- A body is formed where its statements are, by their numbers.
pub body_lines : (c : Checked) (look : List ℕ → Option ℕ) → ((q : List ℕ) → look q ≡ label_at 0 (lines_of true false c.body) q) → formed_code c false c.body stop ≡ formed_lines (bodiless c) look 0 (lines_of true false c.body)
body_lines c look looks =
    let stands : StandsFrom c 0 (placed false c.body stop) = λ j p is. (let e : 0 + j ≡ j = omega arith in ap (slice_get (statements c.body stop)) e ∙ (ap (λ ps. slice_get ps j) (sym (statements_placed false c.body stop)) ∙ get_place (placed false c.body stop) j p is)) in
    formed_placed c false c.body stop ∙ (all_at c look looks 0 (placed false c.body stop) stands ∙ ap (formed_lines (bodiless c) look 0) (lines_placed false c.body stop))

-- A body is formed where its labels differ and its statements are formed by their numbers.
pub body_formed : (c : Checked) (labels : List (List ℕ × ℕ)) (ls : List LineTree) → ls ≡ lines_of true false c.body → all_distinct (label_names ls) ≡ true → ((q : List ℕ) → named labels q ≡ label_at 0 ls q) → formed_body c ≡ formed_lines (bodiless c) (named labels) 0 ls
body_formed c labels ls is distinct found =
    let differ : all_distinct (labels_of c.body) ≡ true = ap all_distinct (labels_listed false c.body) ∙ (ap (λ xs. all_distinct (label_names xs)) (sym is) ∙ distinct) in
    ap (λ b. b && formed_code c false c.body stop) differ ∙ (body_lines c (named labels) (λ q. found q ∙ ap (λ xs. label_at 0 xs q) is) ∙ ap (formed_lines (bodiless c) (named labels) 0) (sym is))

pub body_unformed : (c : Checked) (ls : List LineTree) → ls ≡ lines_of true false c.body → all_distinct (label_names ls) ≡ false → false ≡ formed_body c
body_unformed c ls is twice =
    let differ : all_distinct (labels_of c.body) ≡ false = ap all_distinct (labels_listed false c.body) ∙ (ap (λ xs. all_distinct (label_names xs)) (sym is) ∙ twice) in
    sym (ap (λ b. b && formed_code c false c.body stop) differ)

-- The same by the labels of one list of the statements and the tests of another.
pub body_by_labels : (c : Checked) (labels : List (List ℕ × ℕ)) (ls tested : List LineTree) → ls ≡ lines_of true false c.body → tested ≡ lines_of true false c.body → (all_distinct (label_names ls) ≡ true) × ((q : List ℕ) → named labels q ≡ label_at 0 ls q) → formed_body c ≡ formed_lines (bodiless c) (named labels) 0 tested
body_by_labels c labels ls tested is too told = body_formed c labels ls is told.0 told.1 ∙ ap (formed_lines (bodiless c) (named labels) 0) (is ∙ sym too)

-- What a look for labels tells.
pub some_told : {T : Type 0} (A : Type 0) (B : T → Type 0) (o : Option T) (t : T) → o ≡ Some t → MatchOption o A B → B t
some_told A B None t is h = absurd (cc (is))
some_told A B (Some u) t is h = let e : u ≡ t = cc (is) in subst B e h

pub none_told : {T : Type 0} (A : Type 0) (B : T → Type 0) (o : Option T) → o ≡ None → MatchOption o A B → A
none_told A B None is h = h
none_told A B (Some u) is h = absurd (cc (is))
