-- The `case` of a point stands where the point does.
use Rattle.std.proofs.Common.{◌≡◌, ℕ, ◌<◌, ◌^◌, ◌%◌, Bool, true, false, ◌&&◌, Option, Some, None, refl, ap, ◌∙◌, nat_eq, nat_lt, arith}
use Rattle.std.specs.Prelude.{option_map, if◌then◌else◌}
use Rattle.std.proofs.lemmas.Bool.Decides.{nat_tests}
use Rattle.wf_num.specs.declared.c_arithmetic.CTy.TheVariants as ty
use Rattle.wf_ast.specs.TypedTree.{Simple, Site, Block, end, plain, choose, loop}
use Rattle.wf_ast.specs.WellTyped.{breaks}
use Rattle.wf_meaning.specs.Remaining.{is_point}
use Rattle.c_text.specs.declared.kinds.CNumber.TheVariants.{Int}
use Rattle.c_text.specs.CTree.{finish, empty, case_label, name_label}
use Rattle.c_meaning.specs.CValues.{number, literal_number, converted}
use Rattle.c_meaning.specs.CStep.{behind, Place, at, by_case, find, first_of, here}
use Rattle.wf_exprs.specs.Names.{again_label, behind_label}
use Rattle.wf_lower_stmts.specs.Forms.{Form, resume_here}
use Rattle.wf_lower_stmts.specs.Statements.{awoken, lower_point, lower_plain}
use Rattle.wf_lower_stmts.specs.Lower.{lower, continues, Trail, top, within_if, in_loop, tail_of, lower_trail, Point, first_point, point_in, point_place}
use Rattle.wf_lower_stmts.specs.Laws.{AreInts, ResumesAtPoint}
use Rattle.wf_lower_stmts.proofs.Passes.{ifs, plain_passes, begun_passes, awoken_passes, top_has_none}

-- A small number is itself as an `int`.
int_case : (j : ℕ) → j < 2 ^ 31 → (converted ty.Int (literal_number (Int j))).bits ≡ j
int_case j h =
    let e : j % 2 ^ 32 ≡ j = omega (arith, h) in
    let t : nat_lt j (2 ^ 31) ≡ true = grind (arith, nat_tests, h) in
    rw (e, t) e

turned : (a b : ℕ) → nat_eq a b ≡ nat_eq b a
turned a b = grind (arith, nat_tests)

same_case : (k j : ℕ) → j < 2 ^ 31 → nat_eq k (converted ty.Int (literal_number (Int j))).bits ≡ nat_eq j k
same_case k j h = ap (λ (i : ℕ). nat_eq k i) (int_case j h) ∙ turned k j

both : (pp : Point → Place) (x y : Option Place) (a b : Option Point) → x ≡ option_map pp a → y ≡ option_map pp b
    → first_of x y ≡ option_map pp (first_point a b)
both pp x y None b h k = cc (h, k)
both pp x y (Some it) b h k = cc (h)

chosen : (test : Bool) (pp : Point → Place) (it : Point) (p : Place) (x : Option Place) (r : Option Point)
    → (test ≡ true → p ≡ pp it) → x ≡ option_map pp r
    → first_of (here test p None) x ≡ option_map pp (if test then Some it else r)
chosen true pp it p x r h e = ap (λ q. Some q) (h refl)
chosen false pp it p x r h e = e

module _ (f : Form) (n : Site → ℕ) (k : ℕ) (ints : AreInts n) where
  places : Point → Place
  places = point_place f n k

  no_case : (t : Trail) → find (by_case (number ty.Int k)) (tail_of f t) (lower_trail f n t) ≡ None
  no_case top = top_has_none (by_case (number ty.Int k)) f (lower_trail f n top)
  no_case (within_if passed rest t) = refl
  no_case (in_loop site head body rest t) =
      ifs (by_case (number ty.Int k)) (continues site.number body) (name_label (again_label site.number) (empty finish)) finish finish (λ c. refl) (λ c. refl) (lower_trail f n (in_loop site head body rest t))

  at_point : (site : Site) (s : Simple) (rest : Block) (t : Trail) → ResumesAtPoint f n k rest t
      → find (by_case (number ty.Int k)) (lower_point f (n site) s (lower f n rest (tail_of f t))) (lower_trail f n t)
      ≡ option_map (point_place f n k) (if nat_eq (n site) k then Some (record { site = site; statement = s; rest = rest; trail = t }) else point_in n k rest t)
  at_point site s rest t h =
      begun_passes (by_case (number ty.Int k)) f (n site) s (resume_here (n site) (awoken f (n site) s (lower f n rest (tail_of f t)))) (lower_trail f n t)
      ∙ (ap (λ (b : Bool). first_of (here b (at (case_label (Int (n site)) (empty finish)) (behind finish (awoken f (n site) s (lower f n rest (tail_of f t))) (lower_trail f n t))) None)
      (find (by_case (number ty.Int k)) (awoken f (n site) s (lower f n rest (tail_of f t))) (lower_trail f n t))) (same_case k (n site) (ints site))
      ∙ chosen (nat_eq (n site) k) (point_place f n k) (record { site = site; statement = s; rest = rest; trail = t })
      (at (case_label (Int (n site)) (empty finish)) (behind finish (awoken f (n site) s (lower f n rest (tail_of f t))) (lower_trail f n t)))
      (find (by_case (number ty.Int k)) (awoken f (n site) s (lower f n rest (tail_of f t))) (lower_trail f n t)) (point_in n k rest t)
      (λ e. let j : n site ≡ k = grind (arith, nat_tests, e) in
      ap (λ (i : ℕ). at (case_label (Int i) (empty finish)) (behind finish (awoken f i s (lower f n rest (tail_of f t))) (lower_trail f n t))) j)
      (awoken_passes (by_case (number ty.Int k)) f (n site) s (lower f n rest (tail_of f t)) (lower_trail f n t) ∙ h))

  at_plain : (b : Bool) (site : Site) (s : Simple) (rest : Block) (t : Trail) → ResumesAtPoint f n k rest t
      → find (by_case (number ty.Int k)) (if b then lower_point f (n site) s (lower f n rest (tail_of f t)) else lower_plain f s (lower f n rest (tail_of f t))) (lower_trail f n t)
      ≡ option_map (point_place f n k) (if b && nat_eq (n site) k then Some (record { site = site; statement = s; rest = rest; trail = t }) else point_in n k rest t)
  at_plain true site s rest t h = at_point site s rest t h
  at_plain false site s rest t h = plain_passes (by_case (number ty.Int k)) f s (lower f n rest (tail_of f t)) (lower_trail f n t) ∙ h

  pub resumes_at_point : (b : Block) (t : Trail) → ResumesAtPoint f n k b t
  resumes_at_point end t = no_case t
  resumes_at_point (plain site s rest) t = at_plain (is_point s) site s rest t (resumes_at_point rest t)
  resumes_at_point (choose site chained c a b rest) t =
      both (point_place f n k) _ _ (point_in n k a (within_if b rest t)) (first_point (point_in n k b (within_if end rest t)) (point_in n k rest t)) (resumes_at_point a (within_if b rest t))
      (both (point_place f n k) _ _ (point_in n k b (within_if end rest t)) (point_in n k rest t) (resumes_at_point b (within_if end rest t)) (resumes_at_point rest t))
  resumes_at_point (loop site head body rest) t =
      both (point_place f n k) _ _ (point_in n k body (in_loop site head body rest t)) (point_in n k rest t) (resumes_at_point body (in_loop site head body rest t))
      (ifs (by_case (number ty.Int k)) (breaks site.number body) (name_label (behind_label site.number) (empty (lower f n rest (tail_of f t)))) (lower f n rest (tail_of f t)) (lower f n rest (tail_of f t)) (λ c. refl) (λ c. refl) (lower_trail f n t)
      ∙ resumes_at_point rest t)
