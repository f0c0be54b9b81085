-- What a reading that gives something tells of its parts.
use Rattle.std.proofs.Common.{◌≡◌, ℕ, zero, suc, List, [], ◌∷◌, ◌++◌, Bool, true, false, refl, sym, ap, subst, inl, inr, Option, Some, None, Result, Ok, Err, cond, All, find, slice_get}
use Rattle.std.specs.Option.{option_map, ok_or, IsSomeAnd}
use Rattle.std.proofs.lemmas.Bool.{cases_cond}
use Rattle.std.proofs.lemmas.Option.{same_Some}
use Rattle.std.proofs.lemmas.List.Elements.{All-head, All-tail}
use Rattle.wf_script_rules.specs.declared.rules.XRule.{XRule}
use Rattle.wf_script_rules.specs.Words.{◌>>=◌, demand}

pub same_ok : {A E : Type 0} (x y : A) → ◌≡◌ {A = Result A E} (Ok x) (Ok y) → x ≡ y
same_ok x y e = cc (e)

pub no_value : {A E P : Type 0} (e : E) (x : A) → ◌≡◌ {A = Result A E} (Err e) (Ok x) → P
no_value e x is = absurd (cc (is))

-- a step and what follows it
pub first_ok : {E A B P : Type 0} (x : Result A E) (f : A → Result B E) (y : B) → (x >>= f) ≡ Ok y → ((a : A) → x ≡ Ok a → f a ≡ Ok y → P) → P
first_ok (Ok a) f y e k = k a refl e
first_ok (Err r) f y e k = no_value r y e

pub cond_ok : {A E P : Type 0} (b : Bool) (x y : Result A E) (v : A) → cond b x y ≡ Ok v → (b ≡ true → x ≡ Ok v → P) → (b ≡ false → y ≡ Ok v → P) → P
cond_ok true x y v e then other = then refl e
cond_ok false x y v e then other = other refl e

pub demand_ok : (b : Bool) (rule : XRule) (u : Unit {0}) → demand b rule ≡ Ok u → b ≡ true
demand_ok true rule u e = refl
demand_ok false rule u e = no_value rule u e

pub ok_or_ok : {X E : Type 0} (o : Option X) (e : E) (x : X) → ok_or o e ≡ Ok x → o ≡ Some x
ok_or_ok None e x is = no_value e x is
ok_or_ok (Some y) e x is = ap Some (same_ok y x is)

pub mapped : {X Y P : Type 0} (f : X → Y) (o : Option X) (y : Y) → option_map f o ≡ Some y → ((x : X) → o ≡ Some x → f x ≡ y → P) → P
mapped f None y e k = absurd (cc (e))
mapped f (Some x) y e k = k x refl (same_Some (f x) y e)

pub some_and : {X Q : Type 0} (o : Option X) (P : X → Type 0) → IsSomeAnd o P → ((x : X) → o ≡ Some x → P x → Q) → Q
some_and None P h k = absurd h
some_and (Some x) P h k = k x refl h

pub some_and_from : {X : Type 0} (o : Option X) (P : X → Type 0) (x : X) → o ≡ Some x → P x → IsSomeAnd o P
some_and_from o P x e h = subst (λ q. IsSomeAnd q P) (sym e) h

-- what is found
pub found_is : {X : Type 0} (P : X → Type 0) (test : X → Bool) (xs : List X) (x : X) → All P xs → find test xs ≡ Some x → P x
found_is P test [] x all e = absurd (cc (e))
found_is P test (y ∷ ys) x all e = elim (cases_cond (test y) (Some y) (find test ys) (Some x) (sym e)) [
  | inl q ↦ subst P (sym (same_Some x y q)) (All-head P y ys all)
  | inr q ↦ found_is P test ys x (All-tail P y ys all) (sym q)
]

pub got_front : {X : Type 0} (xs ys : List X) (k : ℕ) (x : X) → slice_get xs k ≡ Some x → slice_get (xs ++ ys) k ≡ Some x
got_front [] ys k x e = absurd (cc (e))
got_front (z ∷ zs) ys zero x e = e
got_front (z ∷ zs) ys (suc k) x e = got_front zs ys k x e
