-- The labels and cases among statements, each by the number of its statement.
use Rattle.std.proofs.Common.{◌≡◌, ◌≤◌, ℕ, zero, suc, List, [], ◌∷◌, length, Option, Some, None, refl, sym, ap, ◌∙◌, subst, arith}
use Rattle.c_text.specs.declared.kinds.CNumber.{CNumber}
use Rattle.c_text.specs.CTree.{Code, finish, nested, empty, assign, call, jump, branch, repeat, select, leave, case_label, default_label, name_label}
use Rattle.c_meaning.specs.UnitForm.{Cases}
use Rattle.c_form_stmts.specs.Lines.{LineTree, line}
use Rattle.c_form_stmts.specs.Cases.{mark_of}
use Rattle.c_form_stmts.specs.Statements.{label_of, name_before, label_names}
use Rattle.c_form_stmts.proofs.CaseLemmas.{cases_by, cases_in}
use Rattle.c_form_laws.specs.Places.{At, Has, Each, AllDiffer}
use Rattle.c_form_laws.specs.StatementRules.{IsLabel, LabelsDiffer, IsPlain, IsCase, IsDefault, AreCases}
use Rattle.c_form_laws.proofs.Places.{differ_front, differ_first, differ_rest}

-- What a test picks from statements.
abbrev pub put_before : {K : Type 0} → Option K → List K → List K
put_before None ks = ks
put_before (Some k) ks = k ∷ ks

abbrev pub picked : {K : Type 0} → (Code → Option K) → List LineTree → List K
picked f [] = []
picked f (l ∷ ls) = put_before (f l.code) (picked f ls)

module _ {K : Type 0} (f : Code → Option K) where
  abbrev pub Marks : List LineTree → ℕ → K → Type 0
  Marks ls i k = (l : LineTree) × At ls i l × (f l.code ≡ Some k)

  put_has : (o : Option K) (ks : List K) (k : K) → Has ks k → Has (put_before o ks) k
  put_has None ks k h = h
  put_has (Some m) ks k h = (suc h.0, h.1)

  marks_at : (ls : List LineTree) (i : ℕ) (k : K) (l : LineTree) → At ls i l → f l.code ≡ Some k → Has (picked f ls) k
  marks_at [] i k l e h = absurd (cc e)
  marks_at (x ∷ ls) zero k l e h =
      let it : x ≡ l = cc e in
      let here : f x.code ≡ Some k = ap (λ (y : LineTree). f y.code) it ∙ h in
      rw here (0, refl)
  marks_at (x ∷ ls) (suc i) k l e h = put_has (f x.code) (picked f ls) k (marks_at ls i k l e h)

  pub marks_has : (ls : List LineTree) (i : ℕ) (k : K) → Marks ls i k → Has (picked f ls) k
  marks_has ls i k h = marks_at ls i k h.0 h.1 h.2

  later : (x : LineTree) (ls : List LineTree) (k : K) → (i : ℕ) × Marks ls i k → (i : ℕ) × Marks (x ∷ ls) i k
  later x ls k h = (suc h.0, h.1)

  pub has_marks : (ls : List LineTree) (k : K) → Has (picked f ls) k → (i : ℕ) × Marks ls i k
  has_marks [] k h = absurd (let e = h.1 in cc e)
  has_marks (x ∷ ls) k h = by (f x.code) refl h.0 h.1 (has_marks ls k)
    where
      by : (o : Option K) → f x.code ≡ o → (i : ℕ) → At (put_before o (picked f ls)) i k → (Has (picked f ls) k → (i : ℕ) × Marks ls i k) → (i : ℕ) × Marks (x ∷ ls) i k
      by None t i e more = later x ls k (more (i, e))
      by (Some m) t zero e more = (0, (x, refl, t ∙ e))
      by (Some m) t (suc i) e more = later x ls k (more (i, e))

  abbrev pub MarksDiffer : List LineTree → Type 0
  MarksDiffer ls = (i j : ℕ) (k : K) → Marks ls i k → Marks ls j k → i ≡ j

  rest_differs : (o : Option K) (ks : List K) → AllDiffer (put_before o ks) → AllDiffer ks
  rest_differs None ks h = h
  rest_differs (Some m) ks h = differ_rest m ks h

  -- What the first one is, none after it is.
  first_alone : (x : LineTree) (ls : List LineTree) (k : K) (l : LineTree) → x ≡ l → f l.code ≡ Some k → AllDiffer (picked f (x ∷ ls)) → Has (picked f ls) k → ⊥
  first_alone x ls k l it h differ has =
      let here : f x.code ≡ Some k = ap (λ (y : LineTree). f y.code) it ∙ h in
      differ_first k (picked f ls) (subst (λ o. AllDiffer (put_before o (picked f ls))) here differ) has

  pub differ_marks : (ls : List LineTree) → AllDiffer (picked f ls) → MarksDiffer ls
  differ_marks [] differ i j k h m = absurd (let e = h.1 in cc e)
  differ_marks (x ∷ ls) differ zero zero k h m = refl
  differ_marks (x ∷ ls) differ zero (suc j) k h m = absurd (first_alone x ls k h.0 (let e = h.1 in cc e) h.2 differ (marks_has ls j k (m.0, m.1, m.2)))
  differ_marks (x ∷ ls) differ (suc i) zero k h m = absurd (first_alone x ls k m.0 (let e = m.1 in cc e) m.2 differ (marks_has ls i k (h.0, h.1, h.2)))
  differ_marks (x ∷ ls) differ (suc i) (suc j) k h m = ap suc (differ_marks ls (rest_differs (f x.code) (picked f ls) differ) i j k (h.0, h.1, h.2) (m.0, m.1, m.2))

  marks_rest : (x : LineTree) (ls : List LineTree) → MarksDiffer (x ∷ ls) → MarksDiffer ls
  marks_rest x ls differ i j k h m = let e : suc i ≡ suc j = differ (suc i) (suc j) k (h.0, h.1, h.2) (m.0, m.1, m.2) in omega (arith, e)

  pub marks_differ : (ls : List LineTree) → MarksDiffer ls → AllDiffer (picked f ls)
  marks_differ [] differ = λ i j k e g. absurd (cc e)
  marks_differ (x ∷ ls) differ = by (f x.code) refl (marks_differ ls (marks_rest x ls differ))
    where
      by : (o : Option K) → f x.code ≡ o → AllDiffer (picked f ls) → AllDiffer (put_before o (picked f ls))
      by None t more = more
      by (Some k) t more =
          differ_front k (picked f ls) (λ has. let h = has_marks ls k has in let e : 0 ≡ suc h.0 = differ 0 (suc h.0) k (x, refl, t) (h.1.0, h.1.1, h.1.2) in omega (arith, e)) more

-- Labels.
labels_picked : (ls : List LineTree) → label_names ls ≡ picked label_of ls
labels_picked [] = refl
labels_picked (l ∷ ls) = by (label_of l.code) (labels_picked ls)
  where
    by : (o : Option (List ℕ)) → label_names ls ≡ picked label_of ls → name_before o (label_names ls) ≡ put_before o (picked label_of ls)
    by None h = h
    by (Some name) h = ap (λ names. name ∷ names) h

pub label_code : (code : Code) (k : List ℕ) → label_of code ≡ Some k → (rest : Code) × (code ≡ name_label k rest)
label_code finish k h = absurd (cc h)
label_code (nested block rest) k h = absurd (cc h)
label_code (empty rest) k h = absurd (cc h)
label_code (assign target value rest) k h = absurd (cc h)
label_code (call target function given rest) k h = absurd (cc h)
label_code (jump to rest) k h = absurd (cc h)
label_code (branch test block otherwise other rest) k h = absurd (cc h)
label_code (repeat test block rest) k h = absurd (cc h)
label_code (select on block rest) k h = absurd (cc h)
label_code (leave value rest) k h = absurd (cc h)
label_code (case_label n rest) k h = absurd (cc h)
label_code (default_label rest) k h = absurd (cc h)
label_code (name_label label rest) k h = (rest, (let e : label ≡ k = cc h in ap (λ l. name_label l rest) e))

mark_label : (ls : List LineTree) (i : ℕ) (k : List ℕ) → Marks label_of ls i k → IsLabel ls i k
mark_label ls i k h = let it = label_code h.0.code k h.2 in (h.0.switched, it.0, h.1 ∙ ap (λ code. Some (line h.0.switched code)) it.1)

label_mark : (ls : List LineTree) (i : ℕ) (k : List ℕ) → IsLabel ls i k → Marks label_of ls i k
label_mark ls i k h = (line h.0 (name_label k h.1), h.2, refl)

pub label_listed : (ls : List LineTree) (i : ℕ) (k : List ℕ) → IsLabel ls i k → Has (label_names ls) k
label_listed ls i k h = subst (λ (ks : List (List ℕ)). Has ks k) (sym (labels_picked ls)) (marks_has label_of ls i k (label_mark ls i k h))

pub labels_apart : (ls : List LineTree) → AllDiffer (label_names ls) → LabelsDiffer ls
labels_apart ls differ i j k h m = differ_marks label_of ls (subst (λ (ks : List (List ℕ)). AllDiffer ks) (labels_picked ls) differ) i j k (label_mark ls i k h) (label_mark ls j k m)

pub apart_labels : (ls : List LineTree) → LabelsDiffer ls → AllDiffer (label_names ls)
apart_labels ls differ =
    subst (λ (ks : List (List ℕ)). AllDiffer ks) (sym (labels_picked ls)) (marks_differ label_of ls (λ i j k h m. differ i j k (mark_label ls i k h) (mark_label ls j k m)))

-- Cases.
abbrev case_of : Code → Option CNumber
case_of (case_label n rest) = Some n
case_of finish = None
case_of (nested block rest) = None
case_of (empty rest) = None
case_of (assign target value rest) = None
case_of (call target function given rest) = None
case_of (jump to rest) = None
case_of (branch test block otherwise other rest) = None
case_of (repeat test block rest) = None
case_of (select on block rest) = None
case_of (leave value rest) = None
case_of (default_label rest) = None
case_of (name_label label rest) = None

abbrev default_of : Code → Option (Unit {0})
default_of (default_label rest) = Some tt
default_of finish = None
default_of (nested block rest) = None
default_of (empty rest) = None
default_of (assign target value rest) = None
default_of (call target function given rest) = None
default_of (jump to rest) = None
default_of (branch test block otherwise other rest) = None
default_of (repeat test block rest) = None
default_of (select on block rest) = None
default_of (leave value rest) = None
default_of (case_label n rest) = None
default_of (name_label label rest) = None

case_code : (code : Code) (k : CNumber) → case_of code ≡ Some k → (rest : Code) × (code ≡ case_label k rest)
case_code finish k h = absurd (cc h)
case_code (nested block rest) k h = absurd (cc h)
case_code (empty rest) k h = absurd (cc h)
case_code (assign target value rest) k h = absurd (cc h)
case_code (call target function given rest) k h = absurd (cc h)
case_code (jump to rest) k h = absurd (cc h)
case_code (branch test block otherwise other rest) k h = absurd (cc h)
case_code (repeat test block rest) k h = absurd (cc h)
case_code (select on block rest) k h = absurd (cc h)
case_code (leave value rest) k h = absurd (cc h)
case_code (default_label rest) k h = absurd (cc h)
case_code (name_label label rest) k h = absurd (cc h)
case_code (case_label n rest) k h = (rest, (let e : n ≡ k = cc h in ap (λ m. case_label m rest) e))

default_code : (code : Code) (k : Unit {0}) → default_of code ≡ Some k → (rest : Code) × (code ≡ default_label rest)
default_code finish k h = absurd (cc h)
default_code (nested block rest) k h = absurd (cc h)
default_code (empty rest) k h = absurd (cc h)
default_code (assign target value rest) k h = absurd (cc h)
default_code (call target function given rest) k h = absurd (cc h)
default_code (jump to rest) k h = absurd (cc h)
default_code (branch test block otherwise other rest) k h = absurd (cc h)
default_code (repeat test block rest) k h = absurd (cc h)
default_code (select on block rest) k h = absurd (cc h)
default_code (leave value rest) k h = absurd (cc h)
default_code (case_label n rest) k h = absurd (cc h)
default_code (name_label label rest) k h = absurd (cc h)
default_code (default_label rest) k h = (rest, refl)

mark_case : (ls : List LineTree) (i : ℕ) (k : CNumber) → Marks case_of ls i k → IsCase ls i k
mark_case ls i k h = let it = case_code h.0.code k h.2 in (h.0.switched, it.0, h.1 ∙ ap (λ code. Some (line h.0.switched code)) it.1)

case_mark : (ls : List LineTree) (i : ℕ) (k : CNumber) → IsCase ls i k → Marks case_of ls i k
case_mark ls i k h = (line h.0 (case_label k h.1), h.2, refl)

mark_default : (ls : List LineTree) (i : ℕ) (k : Unit {0}) → Marks default_of ls i k → IsDefault ls i
mark_default ls i k h = let it = default_code h.0.code k h.2 in (h.0.switched, it.0, h.1 ∙ ap (λ code. Some (line h.0.switched code)) it.1)

default_mark : (ls : List LineTree) (i : ℕ) → IsDefault ls i → Marks default_of ls i tt
default_mark ls i h = (line h.0 (default_label h.1), h.2, refl)

one_mark : (code : Code) (rest : Cases) → (cases_by (mark_of code) rest).numbers ≡ put_before (case_of code) rest.numbers
one_mark finish rest = refl
one_mark (nested block more) rest = refl
one_mark (empty next) rest = refl
one_mark (assign target value next) rest = refl
one_mark (call target function given next) rest = refl
one_mark (jump to next) rest = refl
one_mark (branch test block otherwise other next) rest = refl
one_mark (repeat test block next) rest = refl
one_mark (select on block next) rest = refl
one_mark (leave value next) rest = refl
one_mark (case_label n next) rest = refl
one_mark (default_label next) rest = refl
one_mark (name_label label next) rest = refl

numbers_picked : (ls : List LineTree) → (cases_in ls).numbers ≡ picked case_of ls
numbers_picked [] = refl
numbers_picked (l ∷ ls) = one_mark l.code (cases_in ls) ∙ ap (put_before (case_of l.code)) (numbers_picked ls)

one_default : (code : Code) (rest : Cases) (ks : List (Unit {0})) → rest.defaults ≡ length ks → (cases_by (mark_of code) rest).defaults ≡ length (put_before (default_of code) ks)
one_default finish rest ks h = h
one_default (nested block next) rest ks h = h
one_default (empty next) rest ks h = h
one_default (assign target value next) rest ks h = h
one_default (call target function given next) rest ks h = h
one_default (jump to next) rest ks h = h
one_default (branch test block otherwise other next) rest ks h = h
one_default (repeat test block next) rest ks h = h
one_default (select on block next) rest ks h = h
one_default (leave value next) rest ks h = h
one_default (case_label n next) rest ks h = omega (arith, h)
one_default (default_label next) rest ks h = omega (arith, h)
one_default (name_label label next) rest ks h = h

defaults_picked : (ls : List LineTree) → (cases_in ls).defaults ≡ length (picked default_of ls)
defaults_picked [] = refl
defaults_picked (l ∷ ls) = one_default l.code (cases_in ls) (picked default_of ls) (defaults_picked ls)

few_differ : (ks : List (Unit {0})) → length ks ≤ 1 → AllDiffer ks
few_differ [] h i j k e g = absurd (cc e)
few_differ (x ∷ []) h zero zero k e g = refl
few_differ (x ∷ []) h zero (suc j) k e g = absurd (cc g)
few_differ (x ∷ []) h (suc i) j k e g = absurd (cc e)
few_differ (x ∷ y ∷ ks) h i j k e g = absurd (omega (arith, h))

differ_few : (ks : List (Unit {0})) → AllDiffer ks → length ks ≤ 1
differ_few [] h = omega arith
differ_few (x ∷ []) h = omega arith
differ_few (x ∷ y ∷ ks) h = absurd (let e : 0 ≡ 1 = h 0 1 tt refl refl in omega (arith, e))

abbrev pub AreFormed : Cases → Type 0
AreFormed cases = Each (λ i n. IsPlain n) cases.numbers × AllDiffer cases.numbers × (cases.defaults ≤ 1)

pub cases_apart : (ls : List LineTree) → AreFormed (cases_in ls) → AreCases ls
cases_apart ls h = record {
  plain = (λ i n is. let has = marks_has case_of ls i n (case_mark ls i n is) in
      plain has.0 n has.1);
  differ = (λ i j n is too. differ_marks case_of ls (subst (λ (ns : List CNumber). AllDiffer ns) (numbers_picked ls) h.1) i j n (case_mark ls i n is) (case_mark ls j n too));
  default = (λ i j is too. differ_marks default_of ls (few_differ (picked default_of ls) few) i j tt (default_mark ls i is) (default_mark ls j too));
}
  where
    plain : Each (λ i n. IsPlain n) (picked case_of ls)
    plain = subst (λ (ns : List CNumber). Each (λ i n. IsPlain n) ns) (numbers_picked ls) h.0

    few : length (picked default_of ls) ≤ 1
    few = let e = defaults_picked ls in let k = h.2 in omega (arith, e, k)

pub apart_cases : (ls : List LineTree) → AreCases ls → AreFormed (cases_in ls)
apart_cases ls h = (
  subst (λ (ns : List CNumber). Each (λ i n. IsPlain n) ns) (sym (numbers_picked ls)) plain,
  subst (λ (ns : List CNumber). AllDiffer ns) (sym (numbers_picked ls)) (marks_differ case_of ls (λ i j k a b. h.differ i j k (mark_case ls i k a) (mark_case ls j k b))),
  (let e = defaults_picked ls in omega (arith, e, few)),
)
  where
    plain : Each (λ i n. IsPlain n) (picked case_of ls)
    plain i n e = let it = has_marks case_of ls n (i, e) in h.plain it.0 n (mark_case ls it.0 n it.1)

    few : length (picked default_of ls) ≤ 1
    few = differ_few (picked default_of ls) (marks_differ default_of ls (λ i j k a b. h.default i j (mark_default ls i k a) (mark_default ls j k b)))
