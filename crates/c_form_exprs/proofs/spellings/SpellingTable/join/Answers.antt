use Rattle.std.proofs.Common.{◌≡◌, ℕ, [], ◌∷◌, ◌++◌, Some, None, length, map, ap, sym, ◌∙◌}
use Rattle.std.specs.Ordering.{nat_cmp}
use Rattle.std.specs.Cmp.Lexicographic.{slice_cmp}
use Rattle.std.specs.BTreeMap.{get_by}
use Rattle.std.proofs.lemmas.List.{length-map}
use Rattle.interner.specs.Interning.{digest}
use Rattle.interner.proofs.TableLemmas.{other_texts}
use Rattle.c_form_exprs.proofs.TableLemmas.{seen, first_joined, other_joined, entries_joined, other_numbers}
use Rattle.c_form_exprs.proofs.spellings.SpellingTable.join.Goals as goal

-- Another name has the same digest.
pub invariant_of-self-in-Some : goal.invariant_of-self-in-Some
invariant_of-self-in-Some g c =
    let joined : c.push.new.self.items ≡ c.self.inside.entries.items ++ (c.args.name, c.args.value) ∷ [] = c.in-Ok.ensures.items ∙ ap (λ entries. entries ++ (c.args.name, c.args.value) ∷ []) c.reserve.ensures.items in
    let number : c.len-place.result ≡ length (map seen c.self.inside.entries.items) = c.len-place.ensures ∙ c.self.inside.entries.ok.0 ∙ sym (length-map c.self.inside.entries.items seen) in
    let has : get_by (nat_cmp (digest c.args.name.now)) c.self.inside.firsts ≡ Some c.in-Some.field-0 =
    sym (sym c.in-Some.is ∙ c.copied-first.ensures ∙ c.get.ensures.value ∙ ap (λ (made : ℕ). get_by (nat_cmp made) c.self.inside.firsts) c.digest-made.ensures) in
    other_joined (λ made. get_by (nat_cmp made) c.self.inside.firsts) (λ q. get_by (λ key. slice_cmp nat_cmp q key.now) c.self.inside.others) (λ q. get_by (λ key. slice_cmp nat_cmp q key.now) c.insert.new.self)
    (map seen c.self.inside.entries.items) _ c.args.name.now c.args.value c.in-Some.field-0
    c.self.invariant (rw (← c.self.view_is) at c.requires) has (c.in_ok-insert-in-Some.ensures.updates.1 ∙ ap Some number)
    (λ q f. other_texts (λ key. key.now) c.args.name.now c.self.inside.others c.insert.new.self _ c.in_ok-insert-in-Some.ensures.updates q f)
    (entries_joined seen c.self.inside.entries.items c.push.new.self.items (c.args.name, c.args.value) joined)

-- No other name has this digest.
pub invariant_of-self-in-None : goal.invariant_of-self-in-None
invariant_of-self-in-None g c =
    let joined : c.push-in-None.new.self.items ≡ c.self.inside.entries.items ++ (c.args.name, c.args.value) ∷ [] = c.in-Ok-push.ensures.items ∙ ap (λ entries. entries ++ (c.args.name, c.args.value) ∷ []) c.reserve.ensures.items in
    let number : c.len-place.result ≡ length (map seen c.self.inside.entries.items) = c.len-place.ensures ∙ c.self.inside.entries.ok.0 ∙ sym (length-map c.self.inside.entries.items seen) in
    let none : get_by (nat_cmp (digest c.args.name.now)) c.self.inside.firsts ≡ None =
    sym (sym c.in-None.is ∙ c.copied-first.ensures ∙ c.get.ensures.value ∙ ap (λ (made : ℕ). get_by (nat_cmp made) c.self.inside.firsts) c.digest-made.ensures) in
    let here : get_by (nat_cmp (digest c.args.name.now)) c.insert-in-None.new.self ≡ Some (length (map seen c.self.inside.entries.items)) =
    ap (λ (made : ℕ). get_by (nat_cmp made) c.insert-in-None.new.self) (sym c.digest-made.ensures) ∙ c.in_ok-insert-in-None.ensures.updates.1 ∙ ap Some number in
    first_joined (λ made. get_by (nat_cmp made) c.self.inside.firsts) (λ made. get_by (nat_cmp made) c.insert-in-None.new.self) (λ q. get_by (λ key. slice_cmp nat_cmp q key.now) c.self.inside.others)
    (map seen c.self.inside.entries.items) _ c.args.name.now c.args.value
    c.self.invariant (rw (← c.self.view_is) at c.requires) none here
    (other_numbers c.self.inside.firsts c.insert-in-None.new.self c.digest-made.result (digest c.args.name.now) _ c.digest-made.ensures c.in_ok-insert-in-None.ensures.updates)
    (entries_joined seen c.self.inside.entries.items c.push-in-None.new.self.items (c.args.name, c.args.value) joined)
