-- A fact comes into the sets of what it mentions.
use Rattle.std.proofs.Common.{◌≡◌, ℕ, zero, suc, ◌+◌, ◌%◌, ◌<◌, ◌≤◌, Bool, true, false, ◌&&◌, ◌||◌, List, [], ◌∷◌, length, take, drop, Some, None, refl, sym, ap, ◌∙◌, arith}
use Rattle.std.specs.Prelude.{slice_get, nat_eq}
use Rattle.std.proofs.lemmas.Bool.{eq-eqb}
use Rattle.std.proofs.lemmas.Bool.Decides.{nat_tests}
use Rattle.wf_ast.specs.declared.numbers.ExprId.{ExprId}
use Rattle.wf_ast.specs.declared.variables.FieldId.{FieldId}
use Rattle.wf_ast.specs.declared.things.Thing.{Thing}
use Rattle.wf_ast.specs.declared.things.Thing.TheVariants as things
use Rattle.wf_ast.specs.declared.types.Ty.{Ty}
use Rattle.wf_ast.specs.declared.typed_code.Expr.{Expr}
use Rattle.wf_ast.specs.declared.typed_code.Expr.TheVariants as exprs
use Rattle.wf_ast.specs.declared.typed_nodes.TypedNodes.{TypedNodes}
use Rattle.wf_ast.specs.TypedTree.{ValueTree}
use Rattle.wf_ast.specs.TypedTrees.{tree_of, type_of_node, constant_of_node}
use Rattle.wf_ast.specs.TypedInvariant.{parts_of}
use Rattle.wf_ast.specs.Mentions.{mentions}
use Rattle.wf_ast.specs.SameNodes.{head_mentions, any_mentions}
use Rattle.wf_ast.proofs.SameLaws.{Lent}
use Rattle.wf_ast.proofs.MentionLaws.{head_seen, part_seen, part_unseen, nothing_seen}
use Rattle.wf_facts_exprs.specs.declared.sets.FactSet.{FactSet}
use Rattle.wf_facts_exprs.specs.Sets.{member}
use Rattle.wf_facts_exprs.proofs.PassLemmas.{equal_numbers}
use Rattle.wf_facts_exprs.specs.NumberedSets.{Marks, words_at}
use Rattle.wf_facts_exprs.proofs.NumberedLemmas.{marks-both, marks-same}
use Rattle.wf_facts.specs.IndexedFacts.{MarksField, MarksThings, field_set, thing_of}

-- A field's place.
field-same : (n c : ℕ) (p q : Thing → Bool) (xs ys : List FactSet) → ((x : Thing) → p x ≡ q x) → MarksField n c p xs ys → MarksField n c q xs ys
field-same n c p q xs ys same m = record { comes = m.comes; places = m.places; holds = λ x set it. m.holds x set (same (things.Field x) ∙ it) }

field-both : (n c : ℕ) (p q : Thing → Bool) (xs ys zs : List FactSet) → MarksField n c p xs ys → MarksField n c q ys zs → MarksField n c (λ x. p x || q x) xs zs
field-both n c p q xs ys zs a b = record {
  comes = a.comes || b.comes;
  places = λ j low. b.places j low ∙ ap (λ m. (nat_eq j n && b.comes) || m) (a.places j low) ∙ by (nat_eq j n) a.comes b.comes (member (words_at xs c) j);
  holds = λ x set it. either (p (things.Field x)) (q (things.Field x)) it (a.holds x set) (b.holds x set);
}
  where
    by : (e x y m : Bool) → ((e && y) || ((e && x) || m)) ≡ ((e && (x || y)) || m)
    by false x y m = refl
    by true true true m = refl
    by true true false m = refl
    by true false true m = refl
    by true false false m = refl

    either : (d e : Bool) → (d || e) ≡ true → (d ≡ true → a.comes ≡ true) → (e ≡ true → b.comes ≡ true) → (a.comes || b.comes) ≡ true
    either true e it one other = rw (one refl) refl
    either false e it one other = right a.comes b.comes (other it)
      where
        right : (d e : Bool) → e ≡ true → (d || e) ≡ true
        right true e h = refl
        right false e h = h

pub field-none : (n c : ℕ) (p : Thing → Bool) (xs : List FactSet) → ((x : FieldId) → p (things.Field x) ≡ false) → MarksField n c p xs xs
field-none n c p xs none = record {
  comes = false;
  places = λ j low. by (nat_eq j n) (member (words_at xs c) j);
  holds = λ x set it. absurd (cc (none x, it));
}
  where
    by : (e m : Bool) → m ≡ ((e && false) || m)
    by true m = refl
    by false m = refl

-- The place of a fact that mentions one field comes into the set that this one shares.
pub field-one : (n c k : ℕ) (p : Thing → Bool) (xs ys : List FactSet) → c < 260 → Marks n (λ j. nat_eq j k) xs ys → ((x : FieldId) → p (things.Field x) ≡ true → field_set x ≡ k) → MarksField n c p xs ys
field-one n c k p xs ys low marks only = record {
  comes = nat_eq c k;
  places = marks c low;
  holds = λ x set it. eq-eqb c k (sym set ∙ only x it);
}

pub field_named : (x : FieldId) (ty : Ty) (k : ℕ) → k ≡ field_set x → (y : FieldId) → head_mentions (things.Field y) ty (exprs.Field x) ≡ true → field_set y ≡ k
field_named x ty k is y it = ap (λ m. m % 128) (equal_numbers y.0 x.0 it) ∙ sym is

-- All things.
pub things-same : (n : ℕ) (p q : Thing → Bool) (sets fields sets' fields' : List FactSet) → ((x : Thing) → p x ≡ q x) → MarksThings n p sets fields sets' fields' → MarksThings n q sets fields sets' fields'
things-same n p q sets fields sets' fields' same m = record {
  things = marks-same n (λ k. p (thing_of k)) (λ k. q (thing_of k)) sets sets' (λ k h. same (thing_of k)) m.things;
  shared = λ c low. field-same n c p q fields fields' same (m.shared c low);
}

pub things-both : (n : ℕ) (p q : Thing → Bool) (sets fields sets' fields' sets'' fields'' : List FactSet) → MarksThings n p sets fields sets' fields' → MarksThings n q sets' fields' sets'' fields''
    → MarksThings n (λ x. p x || q x) sets fields sets'' fields''
things-both n p q sets fields sets' fields' sets'' fields'' a b = record {
  things = marks-both n (λ k. p (thing_of k)) (λ k. q (thing_of k)) sets sets' sets'' a.things b.things;
  shared = λ c low. field-both n c p q fields fields' fields'' (a.shared c low) (b.shared c low);
}

pub things-none : (n : ℕ) (p : Thing → Bool) (sets fields : List FactSet) → ((x : Thing) → p x ≡ false) → MarksThings n p sets fields sets fields
things-none n p sets fields none = record {
  things = λ k h j low. by (nat_eq j n) (p (thing_of k)) (member (words_at sets k) j) (none (thing_of k));
  shared = λ c low. field-none n c p fields (λ x. none (things.Field x));
}
  where
    by : (e q m : Bool) → q ≡ false → m ≡ ((e && q) || m)
    by true true m h = absurd (cc (h))
    by true false m h = refl
    by false q m h = refl

-- The parts so far.
pub none_more : (b : Bool) → b ≡ (b || false)
none_more true = refl
none_more false = refl

pub or-again : (a b c : Bool) → ((a || b) || c) ≡ (a || (b || c))
or-again true b c = refl
or-again false b c = refl

pub any-more : (look : ExprId → ValueTree) (x : Thing) (es : List ExprId) (i : ℕ) (p : ExprId) → slice_get es i ≡ Some p → any_mentions look x (take (i + 1) es) ≡ (any_mentions look x (take i es) || mentions (look p) x)
any-more look x [] i p h = absurd (cc (h))
any-more look x (e ∷ es) zero p h =
    let a : e ≡ p = cc (h) in
    rw a (by (mentions (look p) x))
  where
    by : (b : Bool) → (b || false) ≡ b
    by true = refl
    by false = refl
any-more look x (e ∷ es) (suc i) p h =
    let z : suc i + 1 ≡ suc (i + 1) = omega arith in
    ap (λ n. any_mentions look x (take n (e ∷ es))) z ∙ ap (λ c. mentions (look e) x || c) (any-more look x es i p h) ∙ sym (or-again (mentions (look e) x) (any_mentions look x (take i es)) (mentions (look p) x))

pub any-all : (look : ExprId → ValueTree) (x : Thing) (es : List ExprId) (i : ℕ) → length es ≤ i → any_mentions look x (take i es) ≡ any_mentions look x es
any-all look x [] zero h = refl
any-all look x [] (suc i) h = refl
any-all look x (e ∷ es) zero h = absurd (omega (arith, h))
any-all look x (e ∷ es) (suc i) h = ap (λ c. mentions (look e) x || c) (any-all look x es i (omega (arith, h)))

get-first : (es : List ExprId) (i : ℕ) (p : ExprId) (ps : List ExprId) → drop i es ≡ p ∷ ps → slice_get es i ≡ Some p
get-first [] zero p ps h = absurd (cc (h))
get-first [] (suc i) p ps h = absurd (cc (h))
get-first (e ∷ es) zero p ps h = cc (h)
get-first (e ∷ es) (suc i) p ps h = get-first es i p ps h

drop-first : (es : List ExprId) (i : ℕ) (p : ExprId) (ps : List ExprId) → drop i es ≡ p ∷ ps → drop (i + 1) es ≡ ps
drop-first [] zero p ps h = absurd (cc (h))
drop-first [] (suc i) p ps h = absurd (cc (h))
drop-first (e ∷ es) zero p ps h = cc (h)
drop-first (e ∷ es) (suc i) p ps h = let z : suc i + 1 ≡ suc (i + 1) = omega arith in ap (λ n. drop n (e ∷ es)) z ∙ drop-first es i p ps h

drop-nothing : (es : List ExprId) (i : ℕ) → drop i es ≡ [] → length es ≤ i
drop-nothing [] i h = omega arith
drop-nothing (e ∷ es) zero h = absurd (cc (h))
drop-nothing (e ∷ es) (suc i) h = let r = drop-nothing es i h in omega (arith, r)

-- A node that is no constant mentions what it names, and what its parts mention.
module _ (nodes : TypedNodes) (e : ExprId) (expr : Expr) (it : Lent nodes e expr) (x : Thing) (h : constant_of_node nodes e.0 ≡ None) where
  parts-seen : head_mentions x (type_of_node nodes e.0) expr ≡ false → (es : List ExprId) (i : ℕ) → drop i (parts_of expr) ≡ es
      → any_mentions (tree_of nodes) x (drop i (parts_of expr)) ≡ any_mentions (tree_of nodes) x (parts_of expr) → mentions (tree_of nodes e) x ≡ any_mentions (tree_of nodes) x es
  parts-seen none [] i d left = sym (nothing_seen nodes e expr it x h (type_of_node nodes e.0) refl none i (drop-nothing (parts_of expr) i d) left)
  parts-seen none (p ∷ es) i d left = by (mentions (tree_of nodes p) x) refl (parts-seen none es (i + 1) (drop-first (parts_of expr) i p es d))
    where
      by : (b : Bool) → mentions (tree_of nodes p) x ≡ b
          → (any_mentions (tree_of nodes) x (drop (i + 1) (parts_of expr)) ≡ any_mentions (tree_of nodes) x (parts_of expr) → mentions (tree_of nodes e) x ≡ any_mentions (tree_of nodes) x es)
          → mentions (tree_of nodes e) x ≡ (mentions (tree_of nodes p) x || any_mentions (tree_of nodes) x es)
      by true m rest = sym (part_seen nodes e expr it x h i p (get-first (parts_of expr) i p es d) left m) ∙ sym (ap (λ b. b || any_mentions (tree_of nodes) x es) m)
      by false m rest = rest (part_unseen nodes e expr it x h i p (get-first (parts_of expr) i p es d) left m) ∙ sym (ap (λ b. b || any_mentions (tree_of nodes) x es) m)

  pub node-seen : mentions (tree_of nodes e) x ≡ (head_mentions x (type_of_node nodes e.0) expr || any_mentions (tree_of nodes) x (parts_of expr))
  node-seen = by (head_mentions x (type_of_node nodes e.0) expr) refl
    where
      by : (b : Bool) → head_mentions x (type_of_node nodes e.0) expr ≡ b → mentions (tree_of nodes e) x ≡ (head_mentions x (type_of_node nodes e.0) expr || any_mentions (tree_of nodes) x (parts_of expr))
      by true m = sym (head_seen nodes e expr it x h (type_of_node nodes e.0) refl m) ∙ sym (ap (λ b. b || any_mentions (tree_of nodes) x (parts_of expr)) m)
      by false m = parts-seen m (parts_of expr) 0 refl refl ∙ sym (ap (λ b. b || any_mentions (tree_of nodes) x (parts_of expr)) m)

past : (k m : ℕ) → m < 4 → nat_eq (suc (suc (suc (suc k)))) m ≡ false
past k m h = grind (arith, nat_tests, h)
