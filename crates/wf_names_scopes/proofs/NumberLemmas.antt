-- Tables that grow by one name at a time.
use Rattle.std.proofs.Common.{◌≡◌, ℕ, ◌+◌, Bool, true, false, cond, if◌then◌else◌, List, [], ◌∷◌, ◌++◌, Option, Some, None, is_some, nat_eq, option_map, refl, sym, ap, ◌∙◌, length-append, arith}
use Rattle.std.specs.Option.{option_or}
use Rattle.std.specs.List.{position_from}
use Rattle.std.specs.Map.{keys_of}
use Rattle.indexmap.specs.IndexMap.{IndexMap, get, keys, insert_entry}
use Rattle.indexmap.specs.IndexSet.{insert_key}
use Rattle.indexmap.proofs.CallerLemmas.{insert_entry-new}
use Rattle.wf_ast.specs.declared.parsed.Name.{Name}
use Rattle.wf_names_rules.specs.declared.sorts.Sort.{Sort}
use Rattle.wf_names_rules.specs.declared.tables.Entry.{Entry}
use Rattle.wf_names_rules.specs.declared.tables.Numbers.{Numbers}
use Rattle.wf_names_rules.specs.Declarations.{is_spelt}
use Rattle.wf_names_rules.specs.Tables.{number_at}
use Rattle.wf_names_rules.proofs.InsertLemmas.{known_names}
use Rattle.wf_names_scopes.specs.Agreeing.{TellsNumbers}
use Rattle.wf_names_scopes.specs.Growing.{with_first}
use Rattle.wf_names_scopes.proofs.FirstLemmas.{mapped, position_pushed, map_pushed}

-- The names of the entries, after one that is known already and after one that is new.
module _ {K X S : Type 0} (same : K → K → Bool) (table : IndexMap K X S) (key : K) where
  pub name_kept : is_some (get same table key) ≡ true → keys table ≡ insert_key same (keys table) key
  name_kept there =
      let known = known_names (same key) table.entries ∙ there in
      sym (ap (λ b. if b then keys table else keys table ++ key ∷ []) known)

  pub name_put : (value : X) (new : List (K × X)) → is_some (get same table key) ≡ false → new ≡ insert_entry same table.entries key value → keys_of new ≡ insert_key same (keys table) key
  name_put value new fresh made =
      let unknown = known_names (same key) table.entries ∙ fresh in
      ap keys_of (made ∙ insert_entry-new same table key value (none (get same table key) fresh)) ∙ map_pushed (λ e. e.0) table.entries (key, value)
      ∙ sym (ap (λ b. if b then keys table else keys table ++ key ∷ []) unknown)
    where
      none : (o : Option X) → is_some o ≡ false → o ≡ None
      none None h = refl
      none (Some x) h = absurd (cc h)

-- What is told of the entries, after one more; `old` and `new` are what the table answers before it and after it.
module _ {K : Type 0} (same : K → K → Bool) (old new : K → Option Entry) (key : K) (entry : Entry) (put : (other : K) → new other ≡ with_first same old key entry other) where
  pub sort_put : (other : K) → option_map (λ e. e.sort) (new other) ≡ with_first same (λ k. option_map (λ e. e.sort) (old k)) key entry.sort other
  sort_put other =
      let sort : Entry → Sort = λ e. e.sort in
      ap (option_map sort) (put other) ∙ mapped sort (old other) (same key other) entry

  pub place_put : (other : K) → option_map (λ e. e.place) (new other) ≡ with_first same (λ k. option_map (λ e. e.place) (old k)) key entry.place other
  place_put other =
      let place : Entry → ℕ = λ e. e.place in
      ap (option_map place) (put other) ∙ mapped place (old other) (same key other) entry

-- One more name.
pub number_added : {X : Type 0} (first : ℕ) (name : X → Name) (named : List X) (x : X) (old new : Numbers) → new.next ≡ old.next + 1
    → ((text : ℕ) → number_at new text ≡ with_first nat_eq (number_at old) (name x).text.0 old.next text) → TellsNumbers first name named old → TellsNumbers first name (named ++ x ∷ []) new
number_added first name named x old new next h t = record {
  next = omega (arith, next, t.next, length-append named (x ∷ []));
  numbers = λ text.
      h text ∙ ap (λ o. option_or o (cond (nat_eq (name x).text.0 text) (Some old.next) None)) (t.numbers text)
      ∙ ap (λ n. option_or (position_from (λ y. is_spelt text (name y)) first named) (cond (nat_eq (name x).text.0 text) (Some n) None)) t.next
      ∙ sym (position_pushed (λ y. is_spelt text (name y)) first named x);
}
