-- The table of the numbers of structs.
use Rattle.std.proofs.Common.{◌≡◌, ℕ, Bool, if◌then◌else◌, List, [], ◌∷◌, map, Option, Some, Bor, refl, sym, ap, ◌∙◌, subst, inl, inr}
use Rattle.std.specs.Prelude.{bytes_eq, unwrap_or}
use Rattle.std.specs.Map.{lookup}
use Rattle.std.specs.Ordering.{is_eq, nat_cmp}
use Rattle.std.specs.Cmp.Lexicographic.{slice_cmp, texts_ties}
use Rattle.std.specs.BTreeMap.{BTreeMap, get_by, UpdatesBy}
use Rattle.std.proofs.lemmas.Bool.{cases_Bool}
use Rattle.c_text.proofs.Names.{bytes_eq-true}
use Rattle.interner.proofs.TableLemmas.{other_texts}
use Rattle.c_form_exprs.specs.Tables.{named}
use Rattle.c_form_exprs.proofs.TableLemmas.{seen}
use Rattle.c_step_objects.specs.Shapes.{number_in}

-- What is looked up by order is what a name declares.
named_by_order : (es : List (Bor (List ℕ) × ℕ)) (name : List ℕ) → named (map seen es) name ≡ lookup (λ key. is_eq (slice_cmp nat_cmp name key.now)) es
named_by_order [] name = refl
named_by_order (e ∷ es) name = ap (λ (b : Bool). if b then Some e.1 else named (map seen es) name) (texts_ties name e.0.now) ∙ ap (λ (o : Option ℕ). if is_eq (slice_cmp nat_cmp name e.0.now) then Some e.1 else o) (named_by_order es name)

pub number_seen : (es : List (Bor (List ℕ) × ℕ)) (name : List ℕ) → number_in (map seen es) name ≡ unwrap_or (lookup (λ key. is_eq (slice_cmp nat_cmp name key.now)) es) 0
number_seen es name = ap (λ (o : Option ℕ). unwrap_or o 0) (named_by_order es name)

pub number_put : (old new : BTreeMap (Bor (List ℕ)) ℕ) (name : List ℕ) (v : ℕ) → UpdatesBy (λ x y. slice_cmp nat_cmp x.now y.now) (λ key. slice_cmp nat_cmp name key.now) old new (Some v)
    → (q : List ℕ) → number_in (map seen new.entries) q ≡ (if bytes_eq name q then v else number_in (map seen old.entries) q)
number_put old new name v updates q = elim (cases_Bool (bytes_eq name q)) [
  | inl y ↦ (let here : get_by (λ key. slice_cmp nat_cmp q key.now) new ≡ Some v = subst (λ (n : List ℕ). get_by (λ key. slice_cmp nat_cmp n key.now) new ≡ Some v) (bytes_eq-true name q y) updates.1 in
      rw y (number_seen new.entries q ∙ ap (λ (o : Option ℕ). unwrap_or o 0) here))
  | inr f ↦ rw f (number_seen new.entries q ∙ (ap (λ (o : Option ℕ). unwrap_or o 0) (other_texts (λ key. key.now) name old new (Some v) updates q f) ∙ sym (number_seen old.entries q)))
]
