-- The cases of a coroutine's `switch`: 0, and the numbers of its points in order.
use Rattle.std.proofs.Common.{◌≡◌, ℕ, zero, suc, ◌+◌, ◌≤◌, ◌<◌, Bool, true, false, not, ◌&&◌, List, [], ◌∷◌, ◌++◌, length, map, Some, None, nat_eq, refl, sym, ap, ◌∙◌, subst, arith, append_assoc}
use Rattle.std.specs.Prelude.{if◌then◌else◌, nat_le, slice_get}
use Rattle.std.specs.List.{list_all, AllByRecursion}
use Rattle.std.proofs.lemmas.Bool.Decides.{nat_tests}
use Rattle.std.proofs.lemmas.List.{append-nil}
use Rattle.wf_text.specs.Precedence.{Decides}
use Rattle.wf_ast.specs.declared.typed_nodes.TypedNodes.{TypedNodes}
use Rattle.wf_ast.specs.TypedTree.{Simple, break_from, continue_in, assign, await, perform, invoke, give_back, yield, claim, Site, Block, end, plain, choose, loop}
use Rattle.wf_ast.specs.TypedInvariant.{IsTyped, numbers_from}
use Rattle.wf_ast.specs.TypedPackage.{package_of}
use Rattle.wf_ast.specs.WellTyped.{breaks}
use Rattle.wf_meaning.specs.Remaining.{is_point, points_in, number_of}
use Rattle.wf_meaning.proofs.Numbers.{numbered}
use Rattle.wf_meaning.proofs.Order.{points_ascend}
use Rattle.wf_points.specs.PointNumbers.{HasTooMany}
use Rattle.c_text.specs.declared.kinds.CNumber.{CNumber}
use Rattle.c_text.specs.declared.kinds.CNumber.TheVariants.{Int}
use Rattle.c_text.specs.CTree.{Code, finish, empty, case_label, name_label}
use Rattle.c_meaning.specs.UnitForm.{cases_of, is_other_case, plain_distinct}
use Rattle.wf_exprs.specs.Names.{again_label, behind_label}
use Rattle.wf_lower_stmts.specs.Forms.{Form, resume_here}
use Rattle.wf_lower_stmts.specs.Statements.{awoken, lower_point, lower_plain}
use Rattle.wf_lower_stmts.specs.Lower.{lower, continues, again_here, behind_here, tail_of, top}
use Rattle.wf_lower.specs.Bodies.{statements_of}
use Rattle.wf_lower.proofs.Small.{few_points}
use Rattle.wf_lower_laws.specs.LabelLaw.{IsCaseNumber, AreCases}
use Rattle.wf_lower_laws.proofs.Straight.{Straight, over, assigned, calling, leaving, guarded, is_jump, plain_straight, begun_straight, awoken_straight, top_straight}

abbrev pub case_numbers : Code → List CNumber
case_numbers code = (cases_of code).numbers

abbrev pub defaults : Code → ℕ
defaults code = (cases_of code).defaults

pub straight_cases : (rest code : Code) → Straight rest code → case_numbers code ≡ case_numbers rest
straight_cases rest _ over = refl
straight_cases rest _ (assigned target value code s) = straight_cases rest code s
straight_cases rest _ (calling target function given code s) = straight_cases rest code s
straight_cases rest _ (leaving value code s) = straight_cases rest code s
straight_cases rest _ (guarded test body code t s) = ap (λ ns. ns ++ case_numbers code) (straight_cases finish body t) ∙ straight_cases rest code s

pub straight_defaults : (rest code : Code) → Straight rest code → defaults code ≡ defaults rest
straight_defaults rest _ over = refl
straight_defaults rest _ (assigned target value code s) = straight_defaults rest code s
straight_defaults rest _ (calling target function given code s) = straight_defaults rest code s
straight_defaults rest _ (leaving value code s) = straight_defaults rest code s
straight_defaults rest _ (guarded test body code t s) = omega (arith, straight_defaults finish body t, straight_defaults rest code s)

plain_cases : (b : Bool) (f : Form) (s : Simple) (rest : Code) → is_jump s ≡ b → (case_numbers (lower_plain f s rest) ≡ case_numbers rest) × (defaults (lower_plain f s rest) ≡ defaults rest)
plain_cases false f s rest e = (straight_cases rest (lower_plain f s rest) (plain_straight f s rest e), straight_defaults rest (lower_plain f s rest) (plain_straight f s rest e))
plain_cases true f (break_from w) rest e = (refl, refl)
plain_cases true f (continue_in w) rest e = (refl, refl)
plain_cases true f (assign t op v) rest e = absurd (cc e)
plain_cases true f (await at t a call) rest e = absurd (cc e)
plain_cases true f (perform at t call) rest e = absurd (cc e)
plain_cases true f (invoke at t keep mark called given_args) rest e = absurd (cc e)
plain_cases true f (give_back v) rest e = absurd (cc e)
plain_cases true f (yield n) rest e = absurd (cc e)
plain_cases true f (claim goal ax) rest e = absurd (cc e)

point_cases : (f : Form) (j : ℕ) (s : Simple) (rest : Code) → case_numbers (lower_point f j s rest) ≡ Int j ∷ case_numbers rest
point_cases f j s rest =
    straight_cases (resume_here j (awoken f j s rest)) (lower_point f j s rest) (begun_straight f j s (resume_here j (awoken f j s rest)))
    ∙ ap (λ ns. Int j ∷ ns) (straight_cases rest (awoken f j s rest) (awoken_straight f j s rest))

point_defaults : (f : Form) (j : ℕ) (s : Simple) (rest : Code) → defaults (lower_point f j s rest) ≡ defaults rest
point_defaults f j s rest =
    omega (arith, straight_defaults (resume_here j (awoken f j s rest)) (lower_point f j s rest) (begun_straight f j s (resume_here j (awoken f j s rest))), straight_defaults rest (awoken f j s rest) (awoken_straight f j s rest))

label_cases : (b : Bool) (name : List ℕ) (rest : Code) → (case_numbers (if b then name_label name (empty rest) else rest) ≡ case_numbers rest) × (defaults (if b then name_label name (empty rest) else rest) ≡ defaults rest)
label_cases true name rest = (refl, refl)
label_cases false name rest = (refl, refl)

map_append : {A B : Type 0} (g : A → B) (xs ys : List A) → map g (xs ++ ys) ≡ map g xs ++ map g ys
map_append g [] ys = refl
map_append g (x ∷ xs) ys = ap (λ zs. g x ∷ zs) (map_append g xs ys)

module _ (f : Form) (n : Site → ℕ) where
  abbrev pub case_of : Site → CNumber
  case_of site = Int (n site)

  -- With a point before it, or without.
  here : (point : Bool) (site : Site) (points : List Site) (one other : Code) (tail : List CNumber) → case_numbers one ≡ case_of site ∷ (map case_of points ++ tail) → case_numbers other ≡ map case_of points ++ tail
      → case_numbers (if point then one else other) ≡ map case_of (if point then site ∷ points else points) ++ tail
  here true site points one other tail h j = h
  here false site points one other tail h j = j

  here_defaults : (point : Bool) (one other : Code) (m : ℕ) → defaults one ≡ m → defaults other ≡ m → defaults (if point then one else other) ≡ m
  here_defaults true one other m h j = h
  here_defaults false one other m h j = j

  pub block_cases : (b : Block) (tail : Code) → case_numbers (lower f n b tail) ≡ map case_of (points_in b) ++ case_numbers tail
  block_cases end tail = refl
  block_cases (plain site s rest) tail =
      here (is_point s) site (points_in rest) (lower_point f (n site) s (lower f n rest tail)) (lower_plain f s (lower f n rest tail)) (case_numbers tail)
      (point_cases f (n site) s (lower f n rest tail) ∙ ap (λ ns. case_of site ∷ ns) (block_cases rest tail))
      ((plain_cases (is_jump s) f s (lower f n rest tail) refl).0 ∙ block_cases rest tail)
  block_cases (choose site chained test a b rest) tail =
      let t = case_numbers tail in
      let ea : case_numbers (lower f n a finish) ≡ map case_of (points_in a) = block_cases a finish ∙ append-nil (map case_of (points_in a)) in
      let eb : case_numbers (lower f n b finish) ≡ map case_of (points_in b) = block_cases b finish ∙ append-nil (map case_of (points_in b)) in
      cc (
        ea,
        eb,
        block_cases rest tail,
        map_append case_of (points_in a) (points_in b ++ points_in rest),
        map_append case_of (points_in b) (points_in rest),
        append_assoc (map case_of (points_in a)) (map case_of (points_in b) ++ map case_of (points_in rest)) t,
        append_assoc (map case_of (points_in b)) (map case_of (points_in rest)) t,
      )
  block_cases (loop site head body rest) tail =
      let t = case_numbers tail in
      let ebody : case_numbers (lower f n body (again_here site body)) ≡ map case_of (points_in body) =
      block_cases body (again_here site body) ∙ (ap (λ ns. map case_of (points_in body) ++ ns) (label_cases (continues site.number body) (again_label site.number) finish).0 ∙ append-nil (map case_of (points_in body))) in
      let erest : case_numbers (behind_here site body (lower f n rest tail)) ≡ map case_of (points_in rest) ++ t =
      (label_cases (breaks site.number body) (behind_label site.number) (lower f n rest tail)).0 ∙ block_cases rest tail in
      cc (ebody, erest, map_append case_of (points_in body) (points_in rest), append_assoc (map case_of (points_in body)) (map case_of (points_in rest)) t)

  pub block_defaults : (b : Block) (tail : Code) → defaults (lower f n b tail) ≡ defaults tail
  block_defaults end tail = refl
  block_defaults (plain site s rest) tail =
      here_defaults (is_point s) (lower_point f (n site) s (lower f n rest tail)) (lower_plain f s (lower f n rest tail)) (defaults tail)
      (point_defaults f (n site) s (lower f n rest tail) ∙ block_defaults rest tail) ((plain_cases (is_jump s) f s (lower f n rest tail) refl).1 ∙ block_defaults rest tail)
  block_defaults (choose site chained test a b rest) tail = omega (arith, block_defaults a finish, block_defaults b finish, block_defaults rest tail)
  block_defaults (loop site head body rest) tail =
      omega (arith, block_defaults body (again_here site body), (label_cases (continues site.number body) (again_label site.number) finish).1, (label_cases (breaks site.number body) (behind_label site.number) (lower f n rest tail)).1, block_defaults rest tail)

-- Numbers in order, as cases.
abbrev cases_from : (k c : ℕ) → List CNumber
cases_from k c = map (λ j. Int j) (numbers_from k c)

other_case : (k m : ℕ) → k < m → not (nat_eq k m) ≡ true
other_case k m h = let e : nat_eq k m ≡ false = grind (arith, nat_tests, h) in rw e refl

others : (k m c : ℕ) → k < m → list_all (is_other_case (Int k)) (cases_from m c) ≡ true
others k m zero h = refl
others k m (suc c) h = rw (other_case k m h) (others k (suc m) c (omega (arith, h)))

distinct_from : (k c : ℕ) → plain_distinct (cases_from k c) ≡ true
distinct_from k zero = refl
distinct_from k (suc c) = rw (others k (suc k) c (omega arith)) (distinct_from (suc k) c)

below_from : (k c : ℕ) → k + c ≤ 1025 → AllByRecursion IsCaseNumber (cases_from k c)
below_from k zero h = tt
below_from k (suc c) h = (omega (arith, h), below_from (suc k) c (omega (arith, h)))

in_order : (n : Site → ℕ) (points : List Site) (k : ℕ) → ((i : ℕ) (site : Site) → slice_get points i ≡ Some site → n site ≡ k + i) → map (λ site. Int (n site)) points ≡ cases_from k (length points)
in_order n [] k h = refl
in_order n (x ∷ points) k h =
    let first : n x ≡ k = omega (arith, h 0 x refl) in
    let rest = in_order n points (suc k) (λ i site e. omega (arith, h (suc i) site e)) in
    ap (λ j. Int j ∷ map (λ site. Int (n site)) points) first ∙ ap (λ ns. Int k ∷ ns) rest

pub switch_cases : (f : Form) (nodes : TypedNodes) → IsTyped nodes → Decides (HasTooMany (package_of nodes)) None → (i : ℕ) → slice_get (package_of nodes).methods i ≡ Some f.method
    → AreCases (cases_of (case_label (Int 0) (empty (statements_of f))))
switch_cases f nodes typed few i e =
    let n = number_of f.method.body in
    let points = points_in f.method.body in
    let ascend = points_ascend nodes typed i f.method e in
    let own : case_numbers (statements_of f) ≡ cases_from 1 (length points) =
    block_cases f n f.method.body (tail_of f top) ∙ (ap (λ ns. map (λ site. Int (n site)) points ++ ns) (straight_cases finish (tail_of f top) (top_straight f)) ∙ (append-nil (map (λ site. Int (n site)) points)
    ∙ in_order n points 1 (λ j site h. numbered points ascend j site h))) in
    let all : Int 0 ∷ case_numbers (statements_of f) ≡ cases_from 0 (suc (length points)) = ap (λ ns. Int 0 ∷ ns) own in
    let none : 0 + defaults (statements_of f) ≡ 0 = omega (arith, block_defaults f n f.method.body (tail_of f top), straight_defaults finish (tail_of f top) (top_straight f)) in
    let P : List CNumber → Type 0 = λ ns. (plain_distinct ns && nat_le (0 + defaults (statements_of f)) 1) ≡ true in
    let Q : List CNumber → Type 0 = AllByRecursion IsCaseNumber in
    record {
      formed = subst P (sym all) (rw (distinct_from 0 (suc (length points)), none) refl);
      numbers = subst Q (sym all) (below_from 0 (suc (length points)) (omega (arith, few_points nodes typed few i f.method e)));
    }
