-- Labels and cases are found among the statements with their numbers, as they are in the code.
use Rattle.std.proofs.Common.{◌≡◌, ℕ, ◌+◌, Bool, true, false, List, [], ◌∷◌, ◌++◌, Option, Some, None, refl, sym, ◌∙◌, ap, append_assoc}
use Rattle.c_text.specs.CTree.{Code, finish, nested, empty, assign, call, jump, branch, repeat, select, leave, case_label, default_label, name_label}
use Rattle.c_meaning.specs.CStep.{Label, by_name, by_default, is_named, is_default}
use Rattle.c_step_text.specs.declared.text.Arm.{Arm}
use Rattle.c_step_text.specs.Layout.{first_number, number_here, seek}
use Rattle.c_step_text.specs.Emitted.{cases_of}
use Rattle.c_step_places.specs.Places.{PlaceTree, places_of, past, past_both, second}
use Rattle.c_step_places.specs.Marks.{marked, first_marked, case_at, cases_among}

here_first : (b : Bool) (i : ℕ) (x y : Option ℕ) → number_here b i (first_number x y) ≡ first_number (number_here b i x) y
here_first true i x y = refl
here_first false i x y = refl

marked_first : (label : Label) (i : ℕ) (code : Code) (x y : Option ℕ) → marked label i code (first_number x y) ≡ first_number (marked label i code x) y
marked_first label i finish x y = refl
marked_first label i (nested inner rest) x y = refl
marked_first label i (empty rest) x y = refl
marked_first label i (assign target value rest) x y = refl
marked_first label i (call target function given rest) x y = refl
marked_first label i (jump name rest) x y = refl
marked_first label i (branch test body otherwise other rest) x y = refl
marked_first label i (repeat test body rest) x y = refl
marked_first label i (select on body rest) x y = refl
marked_first label i (leave value rest) x y = refl
marked_first label i (case_label n rest) x y = refl
marked_first label i (default_label rest) x y = here_first (is_default label) i x y
marked_first label i (name_label name rest) x y = here_first (is_named label name) i x y

pub marks_append : (label : Label) (ps qs : List PlaceTree) → first_marked label (ps ++ qs) ≡ first_number (first_marked label ps) (first_marked label qs)
marks_append label [] qs = refl
marks_append label (p ∷ ps) qs = ap (marked label p.number p.code) (marks_append label ps qs) ∙ marked_first label p.number p.code (first_marked label ps) (first_marked label qs)

both : (label : Label) (ps qs : List PlaceTree) (x y : Option ℕ) → first_marked label ps ≡ x → first_marked label qs ≡ y → first_marked label (ps ++ qs) ≡ first_number x y
both label ps qs x y one two = marks_append label ps qs ∙ (ap (λ o. first_number o (first_marked label qs)) one ∙ ap (first_number x) two)

pub names_found : (name : List ℕ) (i : ℕ) (code : Code) → first_marked (by_name name) (places_of true i code) ≡ seek (by_name name) i code
names_found name i finish = refl
names_found name i (nested inner rest) = both (by_name name) (places_of true (i + 1) inner) (places_of true (past i inner) rest) _ _ (names_found name (i + 1) inner) (names_found name (past i inner) rest)
names_found name i (empty rest) = names_found name (i + 1) rest
names_found name i (assign target value rest) = names_found name (i + 1) rest
names_found name i (call target function given rest) = names_found name (i + 1) rest
names_found name i (jump label rest) = names_found name (i + 1) rest
names_found name i (branch test body otherwise other rest) =
    both (by_name name) (places_of true (i + 1) body) (places_of true (second i body) other ++ places_of true (past_both i body other) rest) _ _ (names_found name (i + 1) body)
    (both (by_name name) (places_of true (second i body) other) (places_of true (past_both i body other) rest) _ _ (names_found name (second i body) other) (names_found name (past_both i body other) rest))
names_found name i (repeat test body rest) = both (by_name name) (places_of true (i + 1) body) (places_of true (past i body) rest) _ _ (names_found name (i + 1) body) (names_found name (past i body) rest)
names_found name i (select on body rest) = both (by_name name) (places_of true (i + 1) body) (places_of true (past i body) rest) _ _ (names_found name (i + 1) body) (names_found name (past i body) rest)
names_found name i (leave value rest) = names_found name (i + 1) rest
names_found name i (case_label n rest) = names_found name (i + 1) rest
names_found name i (default_label rest) = names_found name (i + 1) rest
names_found name i (name_label label rest) = ap (number_here (is_named (by_name name) label) i) (names_found name (i + 1) rest)

pub default_found : (i : ℕ) (code : Code) → first_marked by_default (places_of false i code) ≡ seek by_default i code
default_found i finish = refl
default_found i (nested inner rest) = both by_default (places_of false (i + 1) inner) (places_of false (past i inner) rest) _ _ (default_found (i + 1) inner) (default_found (past i inner) rest)
default_found i (empty rest) = default_found (i + 1) rest
default_found i (assign target value rest) = default_found (i + 1) rest
default_found i (call target function given rest) = default_found (i + 1) rest
default_found i (jump label rest) = default_found (i + 1) rest
default_found i (branch test body otherwise other rest) =
    both by_default (places_of false (i + 1) body) (places_of false (second i body) other ++ places_of false (past_both i body other) rest) _ _ (default_found (i + 1) body)
    (both by_default (places_of false (second i body) other) (places_of false (past_both i body other) rest) _ _ (default_found (second i body) other) (default_found (past_both i body other) rest))
default_found i (repeat test body rest) = both by_default (places_of false (i + 1) body) (places_of false (past i body) rest) _ _ (default_found (i + 1) body) (default_found (past i body) rest)
default_found i (select on body rest) = default_found (past i body) rest
default_found i (leave value rest) = default_found (i + 1) rest
default_found i (case_label n rest) = default_found (i + 1) rest
default_found i (default_label rest) = refl
default_found i (name_label label rest) = default_found (i + 1) rest

cases_append : (ps qs : List PlaceTree) → cases_among (ps ++ qs) ≡ cases_among ps ++ cases_among qs
cases_append [] qs = refl
cases_append (p ∷ ps) qs = ap (λ arms. case_at p.number p.code ++ arms) (cases_append ps qs) ∙ sym (append_assoc (case_at p.number p.code) (cases_among ps) (cases_among qs))

joined : (ps qs : List PlaceTree) (xs ys : List Arm) → cases_among ps ≡ xs → cases_among qs ≡ ys → cases_among (ps ++ qs) ≡ xs ++ ys
joined ps qs xs ys one two = cases_append ps qs ∙ (ap (λ arms. arms ++ cases_among qs) one ∙ ap (λ arms. xs ++ arms) two)

pub cases_found : (i : ℕ) (code : Code) → cases_among (places_of false i code) ≡ cases_of i code
cases_found i finish = refl
cases_found i (nested inner rest) = joined (places_of false (i + 1) inner) (places_of false (past i inner) rest) _ _ (cases_found (i + 1) inner) (cases_found (past i inner) rest)
cases_found i (empty rest) = cases_found (i + 1) rest
cases_found i (assign target value rest) = cases_found (i + 1) rest
cases_found i (call target function given rest) = cases_found (i + 1) rest
cases_found i (jump label rest) = cases_found (i + 1) rest
cases_found i (branch test body otherwise other rest) =
    joined (places_of false (i + 1) body) (places_of false (second i body) other ++ places_of false (past_both i body other) rest) _ _ (cases_found (i + 1) body)
    (joined (places_of false (second i body) other) (places_of false (past_both i body other) rest) _ _ (cases_found (second i body) other) (cases_found (past_both i body other) rest))
cases_found i (repeat test body rest) = joined (places_of false (i + 1) body) (places_of false (past i body) rest) _ _ (cases_found (i + 1) body) (cases_found (past i body) rest)
cases_found i (select on body rest) = cases_found (past i body) rest
cases_found i (leave value rest) = cases_found (i + 1) rest
cases_found i (case_label n rest) = ap (λ arms. case_at i (case_label n rest) ++ arms) (cases_found (i + 1) rest)
cases_found i (default_label rest) = cases_found (i + 1) rest
cases_found i (name_label label rest) = cases_found (i + 1) rest

first_three : (x y z : Option ℕ) → first_number (first_number x y) z ≡ first_number x (first_number y z)
first_three None y z = refl
first_three (Some n) y z = refl

-- The next statement: its number where it is the first `default`, and its case.
pub default_step : (d found : Option ℕ) (p : PlaceTree) (ps : List PlaceTree) → found ≡ first_number d (marked by_default p.number p.code None) → first_number found (first_marked by_default ps) ≡ first_number d (first_marked by_default (p ∷ ps))
default_step d found p ps is =
    ap (λ o. first_number o (first_marked by_default ps)) is ∙ (first_three d (marked by_default p.number p.code None) (first_marked by_default ps) ∙ ap (first_number d) (sym (marked_first by_default p.number p.code None (first_marked by_default ps))))

pub arms_step : (old new total : List Arm) (p : PlaceTree) (ps : List PlaceTree) → new ≡ old ++ case_at p.number p.code → old ++ cases_among (p ∷ ps) ≡ total → new ++ cases_among ps ≡ total
arms_step old new total p ps is so_far = ap (λ arms. arms ++ cases_among ps) is ∙ (append_assoc old (case_at p.number p.code) (cases_among ps) ∙ so_far)
