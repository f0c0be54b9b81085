-- The labels of a function are all different, and a label that is looked for is one of them.
use Rattle.std.proofs.Common.{◌≡◌, ◌⊎◌, inl, inr, ℕ, ◌<◌, ◌^◌, Bool, true, false, not, ◌||◌, List, [], ◌∷◌, ◌++◌, Option, Some, None, nat_eq, refl, sym, ap, ◌∙◌, subst, arith, append_assoc}
use Rattle.std.specs.Prelude.{if◌then◌else◌, bytes_eq, codes, decimal}
use Rattle.std.proofs.lemmas.Fmt.{decimal_injective}
use Rattle.std.proofs.lemmas.List.{append-nil}
use Rattle.std.proofs.lemmas.List.Folds.{list_any-append}
use Rattle.std.proofs.lemmas.Slice.Eq.{bytes_eq-Decides}
use Rattle.wf_ast.specs.TypedTree.{Simple, break_from, continue_in, assign, await, perform, invoke, give_back, yield, claim, Site, Block, end, plain, choose, loop}
use Rattle.wf_ast.specs.WellTyped.{is_coroutine, breaks}
use Rattle.wf_ast.proofs.Arena.{both_true}
use Rattle.wf_meaning.specs.Remaining.{is_point, number_of}
use Rattle.c_text.specs.CTree.{ExprTree, Code, finish, empty, select, case_label, name_label}
use Rattle.c_text.specs.CTree as c
use Rattle.c_text.specs.declared.kinds.CNumber.TheVariants.{Int}
use Rattle.c_meaning.specs.CStep.{Continuation, behind, again, Place, by_name, find, first_of, at}
use Rattle.c_meaning.specs.UnitForm.{is_among, all_distinct, labels_of}
use Rattle.wf_exprs.specs.Names.{again_label, behind_label, point_field}
use Rattle.wf_exprs.specs.Words.{num, of_self}
use Rattle.wf_lower_stmts.specs.Forms.{Form, when_some, resume_local, resume_here}
use Rattle.wf_lower_stmts.specs.Statements.{awoken, lower_point, lower_plain, lower_simple}
use Rattle.wf_lower_stmts.specs.Lower.{lower, continues, again_here, behind_here, ending, tail_of, top}
use Rattle.wf_lower.specs.Bodies.{body_code, touched, resumed, statements_of}
use Rattle.wf_lower_laws.proofs.Apart.{has, apart, not_true, neither, left_or, right_or, same_number, apart_front, apart_back, apart_both}
use Rattle.wf_lower_laws.proofs.Straight.{Straight, over, assigned, calling, leaving, guarded, is_jump, plain_straight, begun_straight, awoken_straight, ending_straight, top_straight}
use Rattle.wf_lower_laws.proofs.Loops.{loops_in}
use Rattle.wf_lower_laws.proofs.Bodies.{touches, takes_number}

-- ---- a label that is looked for

both_none : (p q : Option Place) → p ≡ None → q ≡ None → first_of p q ≡ None
both_none p q h j = rw (h, j) refl

split_among : (l : List ℕ) (xs ys : List (List ℕ)) → is_among (xs ++ ys) l ≡ false → (is_among xs l ≡ false) × (is_among ys l ≡ false)
split_among l xs ys h = neither (is_among xs l) (is_among ys l) (sym (list_any-append (bytes_eq l) xs ys) ∙ h)

not_found : (l : List ℕ) (code : Code) (k : Continuation) → is_among (labels_of code) l ≡ false → find (by_name l) code k ≡ None
not_found l finish k h = refl
not_found l (c.nested inner rest) k h =
    let p = split_among l (labels_of inner) (labels_of rest) h in
    both_none (find (by_name l) inner (behind finish rest k)) (find (by_name l) rest k) (not_found l inner (behind finish rest k) p.0) (not_found l rest k p.1)
not_found l (empty rest) k h = not_found l rest k h
not_found l (c.assign target value rest) k h = not_found l rest k h
not_found l (c.call target function given rest) k h = not_found l rest k h
not_found l (c.jump label rest) k h = not_found l rest k h
not_found l (c.branch test body otherwise other rest) k h =
    let p = split_among l (labels_of body) (labels_of other ++ labels_of rest) h in
    let q = split_among l (labels_of other) (labels_of rest) p.1 in
    both_none (find (by_name l) body (behind other rest k)) _ (not_found l body (behind other rest k) p.0)
    (both_none (find (by_name l) other (behind finish rest k)) (find (by_name l) rest k) (not_found l other (behind finish rest k) q.0) (not_found l rest k q.1))
not_found l (c.repeat test body rest) k h =
    let p = split_among l (labels_of body) (labels_of rest) h in
    both_none (find (by_name l) body (again test body (behind finish rest k))) (find (by_name l) rest k) (not_found l body (again test body (behind finish rest k)) p.0) (not_found l rest k p.1)
not_found l (select on body rest) k h =
    let p = split_among l (labels_of body) (labels_of rest) h in
    both_none (find (by_name l) body (behind finish rest k)) (find (by_name l) rest k) (not_found l body (behind finish rest k) p.0) (not_found l rest k p.1)
not_found l (c.leave v rest) k h = not_found l rest k h
not_found l (case_label n rest) k h = not_found l rest k h
not_found l (c.default_label rest) k h = not_found l rest k h
not_found l (name_label name rest) k h =
    let p = neither (bytes_eq l name) (is_among (labels_of rest) l) h in
    rw p.0 (not_found l rest k p.1)

pub found_among : (l : List ℕ) (code : Code) (k : Continuation) (p : Place) → find (by_name l) code k ≡ Some p → is_among (labels_of code) l ≡ true
found_among l code k p e = by (is_among (labels_of code) l) refl
  where
    by : (b : Bool) → is_among (labels_of code) l ≡ b → is_among (labels_of code) l ≡ true
    by true h = h
    by false h = absurd (cc (e, not_found l code k h))

-- ---- the labels of a block

abbrev again_labels : Site → (body : Block) → List (List ℕ)
again_labels site body = if continues site.number body then again_label site.number ∷ [] else []

abbrev behind_labels : Site → (body : Block) → List (List ℕ)
behind_labels site body = if breaks site.number body then behind_label site.number ∷ [] else []

abbrev labels_in : Block → List (List ℕ)
labels_in end = []
labels_in (plain site s rest) = labels_in rest
labels_in (choose site chained test a b rest) = labels_in a ++ (labels_in b ++ labels_in rest)
labels_in (loop site head body rest) = labels_in body ++ ((again_labels site body ++ behind_labels site body) ++ labels_in rest)

straight_labels : (rest code : Code) → Straight rest code → labels_of code ≡ labels_of rest
straight_labels rest _ over = refl
straight_labels rest _ (assigned target value code s) = straight_labels rest code s
straight_labels rest _ (calling target function given code s) = straight_labels rest code s
straight_labels rest _ (leaving value code s) = straight_labels rest code s
straight_labels rest _ (guarded test body code t s) = ap (λ ls. ls ++ labels_of code) (straight_labels finish body t) ∙ straight_labels rest code s

if_labels : (ls : List (List ℕ)) (b : Bool) (x y : Code) → labels_of x ≡ ls → labels_of y ≡ ls → labels_of (if b then x else y) ≡ ls
if_labels ls true x y h j = h
if_labels ls false x y h j = j

point_labels : (f : Form) (j : ℕ) (s : Simple) (rest : Code) → labels_of (lower_point f j s rest) ≡ labels_of rest
point_labels f j s rest =
    straight_labels (resume_here j (awoken f j s rest)) (lower_point f j s rest) (begun_straight f j s (resume_here j (awoken f j s rest))) ∙ straight_labels rest (awoken f j s rest) (awoken_straight f j s rest)

plain_labels : (b : Bool) (f : Form) (s : Simple) (rest : Code) → is_jump s ≡ b → labels_of (lower_plain f s rest) ≡ labels_of rest
plain_labels false f s rest e = straight_labels rest (lower_plain f s rest) (plain_straight f s rest e)
plain_labels true f (break_from w) rest e = refl
plain_labels true f (continue_in w) rest e = refl
plain_labels true f (assign t op v) rest e = absurd (cc e)
plain_labels true f (await at t a call) rest e = absurd (cc e)
plain_labels true f (perform at t call) rest e = absurd (cc e)
plain_labels true f (invoke at t keep mark called given_args) rest e = absurd (cc e)
plain_labels true f (give_back v) rest e = absurd (cc e)
plain_labels true f (yield n) rest e = absurd (cc e)
plain_labels true f (claim goal ax) rest e = absurd (cc e)

simple_labels : (f : Form) (j : ℕ) (s : Simple) (rest : Code) → labels_of (lower_simple f j s rest) ≡ labels_of rest
simple_labels f j s rest = if_labels (labels_of rest) (is_point s) (lower_point f j s rest) (lower_plain f s rest) (point_labels f j s rest) (plain_labels (is_jump s) f s rest refl)

end_labels : (b : Bool) (name : List ℕ) → labels_of (if b then name_label name (empty finish) else finish) ≡ (if b then name ∷ [] else [])
end_labels true name = refl
end_labels false name = refl

past_labels : (b : Bool) (name : List ℕ) (rest : Code) → labels_of (if b then name_label name (empty rest) else rest) ≡ (if b then name ∷ [] else []) ++ labels_of rest
past_labels true name rest = refl
past_labels false name rest = refl

module _ (f : Form) (n : Site → ℕ) where
  block_labels : (b : Block) (tail : Code) → labels_of (lower f n b tail) ≡ labels_in b ++ labels_of tail
  block_labels end tail = refl
  block_labels (plain site s rest) tail = simple_labels f (n site) s (lower f n rest tail) ∙ block_labels rest tail
  block_labels (choose site chained test a b rest) tail =
      let ea : labels_of (lower f n a finish) ≡ labels_in a = block_labels a finish ∙ append-nil (labels_in a) in
      let eb : labels_of (lower f n b finish) ≡ labels_in b = block_labels b finish ∙ append-nil (labels_in b) in
      cc (ea, eb, block_labels rest tail, append_assoc (labels_in a) (labels_in b ++ labels_in rest) (labels_of tail), append_assoc (labels_in b) (labels_in rest) (labels_of tail))
  block_labels (loop site head body rest) tail =
      let x = labels_in body in
      let y = again_labels site body in
      let z = behind_labels site body in
      let r = labels_in rest in
      let t = labels_of tail in
      let ebody : labels_of (lower f n body (again_here site body)) ≡ x ++ y = block_labels body (again_here site body) ∙ ap (λ ls. x ++ ls) (end_labels (continues site.number body) (again_label site.number)) in
      let erest : labels_of (behind_here site body (lower f n rest tail)) ≡ z ++ (r ++ t) = past_labels (breaks site.number body) (behind_label site.number) (lower f n rest tail) ∙ ap (λ ls. z ++ ls) (block_labels rest tail) in
      cc (ebody, erest, append_assoc x y (z ++ (r ++ t)), append_assoc y z (r ++ t), append_assoc (y ++ z) r t, append_assoc x ((y ++ z) ++ r) t)

-- ---- they differ

after-prefix : (prefix xs ys : List ℕ) → prefix ++ xs ≡ prefix ++ ys → xs ≡ ys
after-prefix [] xs ys h = h
after-prefix (x ∷ prefix) xs ys h = after-prefix prefix xs ys (cc h)

same_again : (v w : ℕ) → v < 2 ^ 64 → w < 2 ^ 64 → again_label v ≡ again_label w → v ≡ w
same_again v w h j e = decimal_injective v w h j (after-prefix (codes "again_") (decimal v) (decimal w) e)

same_behind : (v w : ℕ) → v < 2 ^ 64 → w < 2 ^ 64 → behind_label v ≡ behind_label w → v ≡ w
same_behind v w h j e = decimal_injective v w h j (after-prefix (codes "behind_") (decimal v) (decimal w) e)

abbrev front : List ℕ → ℕ
front [] = 0
front (x ∷ xs) = x

other_kind : (v w : ℕ) → again_label v ≡ behind_label w → ⊥
other_kind v w e = let h : 97 ≡ 98 = ap front e in absurd (omega (arith, h))

-- Labels of loops with these numbers.
abbrev IsOf : ℕ → List ℕ → Type 0
IsOf w l = (l ≡ again_label w) ⊎ (l ≡ behind_label w)

record Owner (numbers : List ℕ) (l : List ℕ) : Type 0 where
  number : ℕ
  there : has numbers number ≡ true
  is : IsOf number l

abbrev Owned : (numbers : List ℕ) → List (List ℕ) → Type 0
Owned numbers labels = (l : List ℕ) → is_among labels l ≡ true → Owner numbers l

one_owner : (v w : ℕ) (l : List ℕ) → v < 2 ^ 64 → w < 2 ^ 64 → IsOf v l → IsOf w l → v ≡ w
one_owner v w l h j (inl e) (inl g) = same_again v w h j (sym e ∙ g)
one_owner v w l h j (inl e) (inr g) = absurd (other_kind v w (sym e ∙ g))
one_owner v w l h j (inr e) (inl g) = absurd (other_kind w v (sym g ∙ e))
one_owner v w l h j (inr e) (inr g) = same_behind v w h j (sym e ∙ g)

either_true : (a b : Bool) → (a || b) ≡ true → (a ≡ true) ⊎ (b ≡ true)
either_true true b h = inl refl
either_true false b h = inr h

owned_both : (xs ys : List ℕ) (ls ms : List (List ℕ)) → Owned xs ls → Owned ys ms → Owned (xs ++ ys) (ls ++ ms)
owned_both xs ys ls ms h j l e = by (either_true (is_among ls l) (is_among ms l) (sym (list_any-append (bytes_eq l) ls ms) ∙ e))
  where
    by : (is_among ls l ≡ true) ⊎ (is_among ms l ≡ true) → Owner (xs ++ ys) l
    by (inl t) =
        let it = h l t in
        record { number = it.number; there = list_any-append (nat_eq it.number) xs ys ∙ left_or (has xs it.number) (has ys it.number) it.there; is = it.is }
    by (inr t) =
        let it = j l t in
        record { number = it.number; there = list_any-append (nat_eq it.number) xs ys ∙ right_or (has xs it.number) (has ys it.number) it.there; is = it.is }

not_among : (l : List ℕ) → is_among [] l ≡ true → ⊥
not_among l e = absurd (cc e)

owned_here : (b d : Bool) (w : ℕ) → Owned (w ∷ []) ((if b then again_label w ∷ [] else []) ++ (if d then behind_label w ∷ [] else []))
owned_here b d w l e = by b d e
  where
    own : IsOf w l → Owner (w ∷ []) l
    own i = record { number = w; there = left_or (nat_eq w w) false (same_number w); is = i }

    by : (b d : Bool) → is_among ((if b then again_label w ∷ [] else []) ++ (if d then behind_label w ∷ [] else [])) l ≡ true → Owner (w ∷ []) l
    by false false e = absurd (cc e)
    by true false e = first (either_true (bytes_eq l (again_label w)) false e)
      where
        first : (bytes_eq l (again_label w) ≡ true) ⊎ (false ≡ true) → Owner (w ∷ []) l
        first (inl t) = own (inl ((bytes_eq-Decides l (again_label w)).0 t))
        first (inr t) = absurd (cc t)
    by false true e = second (either_true (bytes_eq l (behind_label w)) false e)
      where
        second : (bytes_eq l (behind_label w) ≡ true) ⊎ (false ≡ true) → Owner (w ∷ []) l
        second (inl t) = own (inr ((bytes_eq-Decides l (behind_label w)).0 t))
        second (inr t) = absurd (cc t)
    by true true e = first (either_true (bytes_eq l (again_label w)) (bytes_eq l (behind_label w) || false) e)
      where
        second : (bytes_eq l (behind_label w) ≡ true) ⊎ (false ≡ true) → Owner (w ∷ []) l
        second (inl t) = own (inr ((bytes_eq-Decides l (behind_label w)).0 t))
        second (inr t) = absurd (cc t)

        first : (bytes_eq l (again_label w) ≡ true) ⊎ ((bytes_eq l (behind_label w) || false) ≡ true) → Owner (w ∷ []) l
        first (inl t) = own (inl ((bytes_eq-Decides l (again_label w)).0 t))
        first (inr t) = second (either_true (bytes_eq l (behind_label w)) false t)

owned_block : (b : Block) → Owned (loops_in b) (labels_in b)
owned_block end = λ l e. absurd (not_among l e)
owned_block (plain site s rest) = owned_block rest
owned_block (choose site chained test a b rest) =
    owned_both (loops_in a) (loops_in b ++ loops_in rest) (labels_in a) (labels_in b ++ labels_in rest) (owned_block a)
    (owned_both (loops_in b) (loops_in rest) (labels_in b) (labels_in rest) (owned_block b) (owned_block rest))
owned_block (loop site head body rest) =
    owned_both (loops_in body) (site.number ∷ loops_in rest) (labels_in body) ((again_labels site body ++ behind_labels site body) ++ labels_in rest) (owned_block body)
    (owned_both (site.number ∷ []) (loops_in rest) (again_labels site body ++ behind_labels site body) (labels_in rest)
    (owned_here (continues site.number body) (breaks site.number body) site.number) (owned_block rest))

-- Lists of names of which none stands in the other.
distinct_both : (ls ms : List (List ℕ)) → all_distinct ls ≡ true → all_distinct ms ≡ true → ((l : List ℕ) → is_among ls l ≡ true → is_among ms l ≡ false)
    → all_distinct (ls ++ ms) ≡ true
distinct_both [] ms h j k = j
distinct_both (x ∷ ls) ms h j k =
    let p = both_true (not (is_among ls x)) (all_distinct ls) h in
    let own : is_among (x ∷ ls) x ≡ true = left_or (bytes_eq x x) (is_among ls x) ((bytes_eq-Decides x x).1 refl) in
    let none : is_among (ls ++ ms) x ≡ false = list_any-append (bytes_eq x) ls ms ∙ no_or (is_among ls x) (is_among ms x) (not_true (is_among ls x) p.0) (k x own) in
    rw (none, distinct_both ls ms p.1 j (λ l e. k l (right_or (bytes_eq l x) (is_among ls l) e))) refl
  where
    no_or : (a b : Bool) → a ≡ false → b ≡ false → (a || b) ≡ false
    no_or a b h j = rw (h, j) refl

distinct_owned : (xs ys : List ℕ) (ls ms : List (List ℕ)) → apart (xs ++ ys) ≡ true → ((w : ℕ) → has (xs ++ ys) w ≡ true → w < 2 ^ 64) → Owned xs ls → Owned ys ms
    → all_distinct ls ≡ true → all_distinct ms ≡ true → all_distinct (ls ++ ms) ≡ true
distinct_owned xs ys ls ms h small o p j k = distinct_both ls ms j k (λ l e. none l e (is_among ms l) refl)
  where
    none : (l : List ℕ) → is_among ls l ≡ true → (b : Bool) → is_among ms l ≡ b → b ≡ false
    none l e false g = refl
    none l e true g =
        let one = o l e in
        let other = p l g in
        let in_front : has (xs ++ ys) one.number ≡ true = list_any-append (nat_eq one.number) xs ys ∙ left_or (has xs one.number) (has ys one.number) one.there in
        let in_back : has (xs ++ ys) other.number ≡ true = list_any-append (nat_eq other.number) xs ys ∙ right_or (has xs other.number) (has ys other.number) other.there in
        let same = one_owner one.number other.number l (small one.number in_front) (small other.number in_back) one.is other.is in
        let P : ℕ → Type 0 = λ w. has ys w ≡ true in
        let again : has ys one.number ≡ true = subst P (sym same) other.there in
        absurd (cc (one.there, apart_both one.number xs ys h again))

distinct_here : (b d : Bool) (w : ℕ) → all_distinct ((if b then again_label w ∷ [] else []) ++ (if d then behind_label w ∷ [] else [])) ≡ true
distinct_here false false w = refl
distinct_here true false w = refl
distinct_here false true w = refl
distinct_here true true w = refl

abbrev AreSmall : List ℕ → Type 0
AreSmall xs = (w : ℕ) → has xs w ≡ true → w < 2 ^ 64

small_front : (xs ys : List ℕ) → AreSmall (xs ++ ys) → AreSmall xs
small_front xs ys h w e = h w (list_any-append (nat_eq w) xs ys ∙ left_or (has xs w) (has ys w) e)

small_back : (xs ys : List ℕ) → AreSmall (xs ++ ys) → AreSmall ys
small_back xs ys h w e = h w (list_any-append (nat_eq w) xs ys ∙ right_or (has xs w) (has ys w) e)

distinct_block : (b : Block) → apart (loops_in b) ≡ true → AreSmall (loops_in b) → all_distinct (labels_in b) ≡ true
distinct_block end h s = refl
distinct_block (plain site it rest) h s = distinct_block rest h s
distinct_block (choose site chained test a b rest) h s =
    let back = apart_back (loops_in a) (loops_in b ++ loops_in rest) h in
    let t = small_back (loops_in a) (loops_in b ++ loops_in rest) s in
    distinct_owned (loops_in a) (loops_in b ++ loops_in rest) (labels_in a) (labels_in b ++ labels_in rest) h s (owned_block a)
    (owned_both (loops_in b) (loops_in rest) (labels_in b) (labels_in rest) (owned_block b) (owned_block rest))
    (distinct_block a (apart_front (loops_in a) (loops_in b ++ loops_in rest) h) (small_front (loops_in a) (loops_in b ++ loops_in rest) s))
    (distinct_owned (loops_in b) (loops_in rest) (labels_in b) (labels_in rest) back t (owned_block b) (owned_block rest)
    (distinct_block b (apart_front (loops_in b) (loops_in rest) back) (small_front (loops_in b) (loops_in rest) t))
    (distinct_block rest (apart_back (loops_in b) (loops_in rest) back) (small_back (loops_in b) (loops_in rest) t)))
distinct_block (loop site head body rest) h s =
    let here = again_labels site body ++ behind_labels site body in
    let own = owned_here (continues site.number body) (breaks site.number body) site.number in
    let back = apart_back (loops_in body) (site.number ∷ loops_in rest) h in
    let t = small_back (loops_in body) (site.number ∷ loops_in rest) s in
    distinct_owned (loops_in body) (site.number ∷ loops_in rest) (labels_in body) (here ++ labels_in rest) h s (owned_block body)
    (owned_both (site.number ∷ []) (loops_in rest) here (labels_in rest) own (owned_block rest))
    (distinct_block body (apart_front (loops_in body) (site.number ∷ loops_in rest) h) (small_front (loops_in body) (site.number ∷ loops_in rest) s))
    (distinct_owned (site.number ∷ []) (loops_in rest) here (labels_in rest) back t own (owned_block rest)
    (distinct_here (continues site.number body) (breaks site.number body) site.number)
    (distinct_block rest (apart_back (site.number ∷ []) (loops_in rest) back) (small_back (site.number ∷ []) (loops_in rest) t)))

-- ---- functions

pub straight_distinct : (code : Code) → Straight finish code → all_distinct (labels_of code) ≡ true
straight_distinct code s = rw (straight_labels finish code s) refl

around_labels : (f : Form) (coroutine : Bool) (target value test on : ExprTree) (own : Code)
    → labels_of (if coroutine then c.assign target value (when_some test (resumed f) (select on (case_label (Int 0) (empty own)) (ending f))) else own) ≡ labels_of own
around_labels f true target value test on own =
    let whole = select on (case_label (Int 0) (empty own)) (ending f) in
    straight_labels whole (c.assign target value (when_some test (resumed f) whole)) (takes_number f target value test whole)
    ∙ (ap (λ ls. labels_of own ++ ls) (straight_labels finish (ending f) (ending_straight f)) ∙ append-nil (labels_of own))
around_labels f false target value test on own = refl

pub body_distinct : (f : Form) (names : List (List ℕ)) (code : Code) → apart (loops_in f.method.body) ≡ true → AreSmall (loops_in f.method.body)
    → all_distinct (labels_of (touched names code (body_code f))) ≡ true
body_distinct f names code h s =
    let e : labels_of (touched names code (body_code f)) ≡ labels_in f.method.body =
    straight_labels (body_code f) (touched names code (body_code f)) (touches names code (body_code f))
    ∙ (around_labels f (is_coroutine f.method.mark) (of_self (point_field f.method.name)) (num 0) resume_local resume_local (statements_of f)
    ∙ (block_labels f (number_of f.method.body) f.method.body (tail_of f top)
    ∙ (ap (λ ls. labels_in f.method.body ++ ls) (straight_labels finish (tail_of f top) (top_straight f)) ∙ append-nil (labels_in f.method.body)))) in
    rw e (distinct_block f.method.body h s)
