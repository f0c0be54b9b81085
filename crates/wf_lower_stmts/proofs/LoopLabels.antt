-- The label at the end of a loop's body and the one after the loop stand where the source goes on.
use Rattle.std.proofs.Common.{◌≡◌, ℕ, ◌<◌, ◌^◌, Bool, true, false, ◌&&◌, List, [], ◌∷◌, ◌++◌, Option, Some, None, refl, ap, ◌∙◌, nat_eq, arith}
use Rattle.std.specs.Prelude.{option_map, if◌then◌else◌, bytes_eq, codes, decimal}
use Rattle.std.proofs.lemmas.Bool.Decides.{nat_tests}
use Rattle.std.proofs.lemmas.Fmt.{decimal_injective}
use Rattle.std.proofs.lemmas.Slice.Eq.{bytes_eq-Decides}
use Rattle.wf_ast.specs.TypedTree.{Simple, Site, Head, Block, end, plain, choose, loop}
use Rattle.wf_ast.specs.WellTyped.{breaks}
use Rattle.wf_meaning.specs.Remaining.{is_point}
use Rattle.c_text.specs.CTree.{Code, finish, empty, name_label}
use Rattle.c_meaning.specs.CStep.{Continuation, Place, at, Label, by_name, find, first_of, here}
use Rattle.wf_exprs.specs.Names.{again_label, behind_label}
use Rattle.wf_lower_stmts.specs.Forms.{Form, resume_here}
use Rattle.wf_lower_stmts.specs.Statements.{awoken, lower_point, lower_plain}
use Rattle.wf_lower_stmts.specs.Lower.{lower, continues, behind_here, Trail, top, within_if, in_loop, tail_of, lower_trail, Loop, first_loop, this_loop, loop_in, loop_around, again_place, behind_place}
use Rattle.wf_lower_stmts.specs.Laws.{AreSpelt, IsSpelt, ContinuesAtLoop, BreaksBehindLoop}
use Rattle.wf_lower_stmts.proofs.Passes.{ifs, plain_passes, begun_passes, awoken_passes, top_has_none}

-- ---- names

after-prefix : (prefix xs ys : List ℕ) → prefix ++ xs ≡ prefix ++ ys → xs ≡ ys
after-prefix [] xs ys h = h
after-prefix (c ∷ prefix) xs ys h = after-prefix prefix xs ys (cc h)

-- Labels of one kind are spelt alike where their numbers are one, and nowhere else.
spelt : (prefix : List ℕ) (a b : ℕ) → a < 2 ^ 64 → b < 2 ^ 64 → bytes_eq (prefix ++ decimal a) (prefix ++ decimal b) ≡ nat_eq b a
spelt prefix a b p q = by (bytes_eq (prefix ++ decimal a) (prefix ++ decimal b)) (nat_eq b a) refl refl
  where
    by : (t u : Bool) → bytes_eq (prefix ++ decimal a) (prefix ++ decimal b) ≡ t → nat_eq b a ≡ u → t ≡ u
    by true true e f = refl
    by false false e f = refl
    by true false e f =
        let same = decimal_injective a b p q (after-prefix prefix (decimal a) (decimal b) ((bytes_eq-Decides (prefix ++ decimal a) (prefix ++ decimal b)).0 e)) in
        absurd (grind (arith, nat_tests, same, f))
    by false true e f =
        let same : a ≡ b = grind (arith, nat_tests, f) in
        let k : bytes_eq (prefix ++ decimal a) (prefix ++ decimal b) ≡ true = (bytes_eq-Decides (prefix ++ decimal a) (prefix ++ decimal b)).1 (ap (λ n. prefix ++ decimal n) same) in
        absurd (cc (e, k))

-- ---- statements

-- A statement has no label of that kind.
point_passes : (name : List ℕ) (f : Form) (j : ℕ) (s : Simple) (rest : Code) (k : Continuation) → find (by_name name) (lower_point f j s rest) k ≡ find (by_name name) rest k
point_passes name f j s rest k = begun_passes (by_name name) f j s (resume_here j (awoken f j s rest)) k ∙ awoken_passes (by_name name) f j s rest k

simple_passes : (name : List ℕ) (f : Form) (j : ℕ) (s : Simple) (rest : Code) (k : Continuation)
    → find (by_name name) (if is_point s then lower_point f j s rest else lower_plain f s rest) k ≡ find (by_name name) rest k
simple_passes name f j s rest k = ifs (by_name name) (is_point s) (lower_point f j s rest) (lower_plain f s rest) rest (point_passes name f j s rest) (plain_passes (by_name name) f s rest) k

-- ---- the first of several

module _ (place : Loop → Place) where
  either : (x y : Option Place) (a b : Option Loop) → x ≡ option_map place a → y ≡ option_map place b → first_of x y ≡ option_map place (first_loop a b)
  either x y None b h k = rw h k
  either x y (Some it) b h k = rw h refl

  -- and after them what stands around
  either_or : (x y : Option Place) (a b : Option Loop) (around : Option Place) → x ≡ first_of (option_map place a) None → y ≡ first_of (option_map place b) around
      → first_of x y ≡ first_of (option_map place (first_loop a b)) around
  either_or x y None b around h k = rw h k
  either_or x y (Some it) b around h k = rw h refl

  three_or : (x y : Option Place) (a this b : Option Loop) (around : Option Place) → x ≡ first_of (option_map place a) (option_map place this) → y ≡ first_of (option_map place b) around
      → first_of x y ≡ first_of (option_map place (first_loop a (first_loop this b))) around
  three_or x y None None b around h k = rw h k
  three_or x y None (Some it) b around h k = rw h refl
  three_or x y (Some it) this b around h k = rw h refl

  -- A label that stands where something jumps to it.
  label_here : (same there : Bool) (it : Loop) (p : Place) → p ≡ place it → (if there then here same p None else None) ≡ option_map place (if same && there then Some it else None)
  label_here true true it p e = ap (λ p. Some p) e
  label_here true false it p e = refl
  label_here false true it p e = refl
  label_here false false it p e = refl

  label_or : (same there : Bool) (it : Loop) (p : Place) (x : Option Place) (a : Option Loop) → p ≡ place it → x ≡ option_map place a
      → (if there then here same p x else x) ≡ option_map place (first_loop (if same && there then Some it else None) a)
  label_or true true it p x a e h = ap (λ p. Some p) e
  label_or true false it p x a e h = h
  label_or false true it p x a e h = h
  label_or false false it p x a e h = h

-- Where a label is looked for in an `if`.
found_if : (l : Label) (there : Bool) (c d : Code) (k : Continuation) → find l (if there then c else d) k ≡ (if there then find l c k else find l d k)
found_if l true c d k = refl
found_if l false c d k = refl

module _ (f : Form) (n : Site → ℕ) (w : ℕ) (few : w < 2 ^ 64) where
  -- ---- `continue`

  at_end : (site : Site) (head : Head) (body rest : Block) (t : Trail) → site.number < 2 ^ 64 → ContinuesAtLoop f n w end (in_loop site head body rest t)
  at_end site head body rest t s =
      let it : Loop = record { site = site; head = head; body = body; rest = rest; trail = t } in
      let k = lower_trail f n (in_loop site head body rest t) in
      let p = at (name_label (again_label site.number) (empty finish)) k in
      found_if (by_name (again_label w)) (continues site.number body) (name_label (again_label site.number) (empty finish)) finish k
      ∙ (ap (λ same. if continues site.number body then here same p None else None) (spelt (codes "again_") w site.number few s)
      ∙ label_here (again_place f n) (nat_eq site.number w) (continues site.number body) it p refl)

  -- The label after a loop is none at its body's end.
  behind_passes : (site : Site) (body : Block) (rest : Code) (k : Continuation) → find (by_name (again_label w)) (behind_here site body rest) k ≡ find (by_name (again_label w)) rest k
  behind_passes site body rest k =
      ifs (by_name (again_label w)) (breaks site.number body) (name_label (behind_label site.number) (empty rest)) rest rest (λ k. refl) (λ k. refl) k

  pub continues_at : (b : Block) (t : Trail) → AreSpelt b → IsSpelt t → ContinuesAtLoop f n w b t
  continues_at end top h g = top_has_none (by_name (again_label w)) f (lower_trail f n top)
  continues_at end (within_if passed rest t) h g = refl
  continues_at end (in_loop site head body rest t) h g = at_end site head body rest t g
  continues_at (plain site s rest) t h g = simple_passes (again_label w) f (n site) s (lower f n rest (tail_of f t)) (lower_trail f n t) ∙ continues_at rest t h g
  continues_at (choose site chained c a b rest) t h g =
      either_or (again_place f n) _ _ (loop_in continues w a (within_if b rest t)) (first_loop (loop_in continues w b (within_if end rest t)) (loop_in continues w rest t)) (option_map (again_place f n) (loop_around w t))
      (continues_at a (within_if b rest t) h.0 tt)
      (either_or (again_place f n) _ _ (loop_in continues w b (within_if end rest t)) (loop_in continues w rest t) (option_map (again_place f n) (loop_around w t))
      (continues_at b (within_if end rest t) h.1.0 tt) (continues_at rest t h.1.1 g))
  continues_at (loop site head body rest) t h g =
      three_or (again_place f n) _ _ (loop_in continues w body (in_loop site head body rest t)) (loop_around w (in_loop site head body rest t)) (loop_in continues w rest t) (option_map (again_place f n) (loop_around w t))
      (continues_at body (in_loop site head body rest t) h.1.0 h.0)
      (behind_passes site body (lower f n rest (tail_of f t)) (lower_trail f n t) ∙ continues_at rest t h.1.1 g)

  -- ---- `break`

  pub breaks_at : (b : Block) (t : Trail) → AreSpelt b → BreaksBehindLoop f n w b t
  breaks_at end top h = top_has_none (by_name (behind_label w)) f (lower_trail f n top)
  breaks_at end (within_if passed rest t) h = refl
  breaks_at end (in_loop site head body rest t) h =
      ifs (by_name (behind_label w)) (continues site.number body) (name_label (again_label site.number) (empty finish)) finish finish (λ k. refl) (λ k. refl) (lower_trail f n (in_loop site head body rest t))
  breaks_at (plain site s rest) t h = simple_passes (behind_label w) f (n site) s (lower f n rest (tail_of f t)) (lower_trail f n t) ∙ breaks_at rest t h
  breaks_at (choose site chained c a b rest) t h =
      either (behind_place f n) _ _ (loop_in breaks w a (within_if b rest t)) (first_loop (loop_in breaks w b (within_if end rest t)) (loop_in breaks w rest t))
      (breaks_at a (within_if b rest t) h.0)
      (either (behind_place f n) _ _ (loop_in breaks w b (within_if end rest t)) (loop_in breaks w rest t) (breaks_at b (within_if end rest t) h.1.0) (breaks_at rest t h.1.1))
  breaks_at (loop site head body rest) t h =
      let it : Loop = record { site = site; head = head; body = body; rest = rest; trail = t } in
      let code = lower f n rest (tail_of f t) in
      let k = lower_trail f n t in
      let p = at (name_label (behind_label site.number) (empty code)) k in
      either (behind_place f n) _ _ (loop_in breaks w body (in_loop site head body rest t)) (first_loop (this_loop breaks w it) (loop_in breaks w rest t))
      (breaks_at body (in_loop site head body rest t) h.1.0)
      (found_if (by_name (behind_label w)) (breaks site.number body) (name_label (behind_label site.number) (empty code)) code k
      ∙ (ap (λ same. if breaks site.number body then here same p (find (by_name (behind_label w)) code k) else find (by_name (behind_label w)) code k) (spelt (codes "behind_") w site.number few h.0)
      ∙ label_or (behind_place f n) (nat_eq site.number w) (breaks site.number body) it p (find (by_name (behind_label w)) code k) (loop_in breaks w rest t) refl (breaks_at rest t h.1.1)))
