-- The first refusal after a pass.
use Rattle.std.proofs.Common.{◌≡◌, ◌⊎◌, ℕ, zero, suc, Bool, map, List, [], ◌∷◌, ◌++◌, Option, Some, None, slice_get, refl, sym, ap, ◌∙◌, subst, inl, inr}
use Rattle.std.specs.List.{flat_map}
use Rattle.wf_text.specs.declared.rules.Refusal.{Refusal}
use Rattle.wf_text.specs.Precedence.{Decides, soonest}
use Rattle.wf_text.proofs.PrecedenceLaws.{Among, here, there, Decides-map, Decides-soonest}
use Rattle.wf_names_rules.specs.Declarations.{Declared}
use Rattle.wf_names_rules.specs.Found.{Finds}
use Rattle.wf_names_rules.specs.NameRules.{SizeBreaks, too_long_array, too_large_struct}
use Rattle.wf_names_sizes.specs.Deciding.{DecidesBehind}
use Rattle.wf_names_sizes.specs.LongArrays.{struct_longs, method_longs, arrays_found, HasLongArray}
use Rattle.wf_names_sizes.specs.StructSizes.{row_of, struct_large, AreHolding, AreSizes, AreSettled, HasLargeField}
use Rattle.wf_names_sizes.proofs.ArrayLemmas.{soonest-append}
use Rattle.wf_names_sizes.proofs.LongLaws.{among-append, among-front, among-behind, struct-breaks, method-breaks, found-break, array-breaks}
use Rattle.wf_names_sizes.proofs.LargeLaws.{large-sound, large-complete}

finds-among : (t : Refusal) (ns : List (Option Refusal)) (k : ℕ) → slice_get ns k ≡ Some (Some t) → Among t ns
finds-among t [] k h = absurd (cc h)
finds-among t (n ∷ ns) zero h = here n ns (let e : n ≡ Some t = cc h in e)
finds-among t (n ∷ ns) (suc k) h = there n ns (finds-among t ns k h)

among-finds : (t : Refusal) (ns : List (Option Refusal)) → Among t ns → Finds ns t
among-finds t _ (here n ns e) = (0, ap (λ x. Some x) e)
among-finds t _ (there n ns a) = let r = among-finds t ns a in (suc r.0, r.1)

-- The first refusal of what was known and what breaks the rule.
pub behind-decides : (P Breaks : Refusal → Type 0) (found all : Option Refusal) → Decides P found → DecidesBehind Breaks found all → Decides (λ s. P s ⊎ Breaks s) all
behind-decides P Breaks found all h b =
    let F : Option Refusal → Type 0 = Decides (λ s. P s ⊎ Breaks s) in
    subst F (sym b.decides)
    (
    Decides-map (λ t. P t ⊎ Among t b.finds) (λ s. P s ⊎ Breaks s) (soonest found b.finds)
    (λ t c. elim c [ inl k ↦ inl k | inr a ↦ inr (b.sound t (among-finds t b.finds a)) ])
    (λ t c. elim c [ inl k ↦ inl k | inr q ↦ (let f = b.complete t q in inr (finds-among t b.finds f.0 f.1)) ])
    (Decides-soonest P found b.finds h)
    )

pub alone-decides : (Breaks : Refusal → Type 0) (all : Option Refusal) → DecidesBehind Breaks None all → Decides Breaks all
alone-decides Breaks all b =
    Decides-map (λ s. ⊥ ⊎ Breaks s) Breaks all (λ t c. elim c [ inl k ↦ absurd k | inr q ↦ q ]) (λ t q. inr q) (behind-decides (λ t. ⊥) Breaks None all (λ t k. k) b)

-- Fields that pass the limit.
pub large-behind : (d : Declared) (flags : List Bool) (sizes : List (Option ℕ)) → AreHolding d flags → AreSizes d sizes → AreSettled flags sizes (map (row_of d) d.structs)
    → (found : Option Refusal) → DecidesBehind (HasLargeField d) found (soonest found (flat_map (struct_large d flags sizes) d.structs))
large-behind d flags sizes holding sound settled found = record {
  finds = flat_map (struct_large d flags sizes) d.structs;
  decides = refl;
  sound = λ t f. large-sound d flags sizes holding sound t (finds-among t (flat_map (struct_large d flags sizes) d.structs) f.0 f.1);
  complete = λ t b. among-finds t (flat_map (struct_large d flags sizes) d.structs) (large-complete d flags sizes holding sound settled t b);
}

pub large-breaks : (d : Declared) (t : Refusal) → HasLargeField d t → SizeBreaks d t
large-breaks d t h =
    let P : Refusal → Type 0 = SizeBreaks d in
    subst P (sym h.refused) (too_large_struct h.structure h.front h.back h.variable h.before h.since h.is h.fields h.takes_before h.least h.takes_since h.most)

break-cases : (d : Declared) (t : Refusal) → SizeBreaks d t → HasLongArray d t ⊎ HasLargeField d t
break-cases d _ (too_long_array locals v h long) = inl (record { locals = locals; variable = v; here = h; long = long; refused = refl })
break-cases d _ (too_large_struct s front back v n m is fields before least since most) = inr (record {
  structure = s;
  front = front;
  back = back;
  variable = v;
  before = n;
  since = m;
  is = is;
  fields = fields;
  takes_before = before;
  least = least;
  takes_since = since;
  most = most;
  refused = refl;
})

-- Arrays, then structs.
pub sizes-behind : (d : Declared) (found all : Option Refusal) → DecidesBehind (HasLargeField d) (arrays_found d found) all → DecidesBehind (SizeBreaks d) found all
sizes-behind d found all b =
    let xs = flat_map (struct_longs d) d.structs in
    let ys = flat_map (method_longs d) d.methods in
    record {
      finds = (xs ++ ys) ++ b.finds;
      decides = b.decides ∙ ap (λ f. soonest f b.finds) (sym (soonest-append found xs ys)) ∙ sym (soonest-append found (xs ++ ys) b.finds);
      sound = λ t f. sound t (among-append t (xs ++ ys) b.finds (finds-among t ((xs ++ ys) ++ b.finds) f.0 f.1));
      complete = λ t q. complete t (break-cases d t q);
    }
  where
    sound : (t : Refusal) → Among t (flat_map (struct_longs d) d.structs ++ flat_map (method_longs d) d.methods) ⊎ Among t b.finds → SizeBreaks d t
    sound t (inl a) = elim (among-append t (flat_map (struct_longs d) d.structs) (flat_map (method_longs d) d.methods) a) [
      | inl p ↦ array-breaks d t (struct-breaks d t p)
      | inr p ↦ array-breaks d t (method-breaks d t p)
    ]
    sound t (inr a) = large-breaks d t (b.sound t (among-finds t b.finds a))

    complete : (t : Refusal) → HasLongArray d t ⊎ HasLargeField d t → Finds ((flat_map (struct_longs d) d.structs ++ flat_map (method_longs d) d.methods) ++ b.finds) t
    complete t (inl h) =
        let arrays : Among t (flat_map (struct_longs d) d.structs ++ flat_map (method_longs d) d.methods) = elim (found-break d t h) [
          | inl p ↦ among-front t (flat_map (struct_longs d) d.structs) (flat_map (method_longs d) d.methods) p
          | inr p ↦ among-behind t (flat_map (struct_longs d) d.structs) (flat_map (method_longs d) d.methods) p
        ] in
        among-finds t ((flat_map (struct_longs d) d.structs ++ flat_map (method_longs d) d.methods) ++ b.finds) (among-front t (flat_map (struct_longs d) d.structs ++ flat_map (method_longs d) d.methods) b.finds arrays)
    complete t (inr h) =
        let f = b.complete t h in
        among-finds t ((flat_map (struct_longs d) d.structs ++ flat_map (method_longs d) d.methods) ++ b.finds) (among-behind t (flat_map (struct_longs d) d.structs ++ flat_map (method_longs d) d.methods) b.finds (finds-among t b.finds f.0 f.1))
