-- Tables of variables that grow by one at a time.
use Rattle.std.proofs.Common.{◌≡◌, ℕ, ◌+◌, ◌<◌, Bool, true, false, cond, List, [], ◌∷◌, ◌++◌, map, length, drop, slice_index_or, Some, None, nat_eq, option_map, refl, sym, ap, ◌∙◌, subst, append_assoc, length-append, arith}
use Rattle.std.specs.Option.{option_or}
use Rattle.std.specs.List.{find}
use Rattle.indexmap.specs.IndexSet.{insert_key, insert_all}
use Rattle.wf_text.specs.declared.place.Place.{Place}
use Rattle.wf_ast.specs.declared.numbers.StmtId.{StmtId}
use Rattle.wf_ast.specs.declared.parsed.Field.{Field}
use Rattle.wf_ast.specs.ParsedTree.{ExprTree, StmtTree}
use Rattle.wf_ast.specs.ParsedTrees.{type_at, fields_at, stmt_at, items_at}
use Rattle.wf_names_rules.specs.declared.sorts.Sort.{Sort}
use Rattle.wf_names_rules.specs.declared.tables.Variables.{Variables}
use Rattle.wf_names_rules.specs.Declarations.{Variable, variables, local_of, locals_of, bytes_of, is_spelt, place_in}
use Rattle.wf_names_rules.specs.Meanings.{sort_of, names_once}
use Rattle.wf_names_rules.specs.Tables.{sort_at, place_at, names_known}
use Rattle.wf_names_rules.proofs.WalkLemmas.{drop-one}
use Rattle.wf_names_scopes.specs.Agreeing.{TellsVariables, sort_among}
use Rattle.wf_names_scopes.specs.Growing.{with_first, TellsUpTo}
use Rattle.wf_names_scopes.proofs.FirstLemmas.{position_pushed, map_pushed}

-- What is meant after one more variable.
pub sort_pushed : (texts : List (List ℕ)) (front : List Variable) (v : Variable) (text : ℕ)
    → sort_among texts (front ++ v ∷ []) text ≡ option_or (sort_among texts front text) (cond (nat_eq v.name.text.0 text) (Some (sort_of (bytes_of texts) v.of)) None)
sort_pushed texts [] v text = by (nat_eq v.name.text.0 text)
  where
    by : (b : Bool) → option_map (λ (u : Variable). sort_of (bytes_of texts) u.of) (cond b (Some v) None) ≡ cond b (Some (sort_of (bytes_of texts) v.of)) None
    by true = refl
    by false = refl
sort_pushed texts (u ∷ us) v text = by (nat_eq u.name.text.0 text) (sort_pushed texts us v text)
  where
    by : (b : Bool) → sort_among texts (us ++ v ∷ []) text ≡ option_or (sort_among texts us text) (cond (nat_eq v.name.text.0 text) (Some (sort_of (bytes_of texts) v.of)) None)
        → option_map (λ (w : Variable). sort_of (bytes_of texts) w.of) (cond b (Some u) (find (λ w. is_spelt text w.name) (us ++ v ∷ [])))
        ≡ option_or (option_map (λ (w : Variable). sort_of (bytes_of texts) w.of) (cond b (Some u) (find (λ w. is_spelt text w.name) us))) (cond (nat_eq v.name.text.0 text) (Some (sort_of (bytes_of texts) v.of)) None)
    by true r = refl
    by false r = r

-- The names after one more variable.
all_pushed : (ks xs : List ℕ) (x : ℕ) → insert_all nat_eq ks (xs ++ x ∷ []) ≡ insert_key nat_eq (insert_all nat_eq ks xs) x
all_pushed ks [] x = refl
all_pushed ks (y ∷ ys) x = all_pushed (insert_key nat_eq ks y) ys x

once_pushed : (front : List Variable) (v : Variable) → names_once (front ++ v ∷ []) ≡ insert_key nat_eq (names_once front) v.name.text.0
once_pushed front v =
    let text_of : Variable → ℕ = λ u. u.name.text.0 in
    ap (insert_all nat_eq []) (map_pushed text_of front v) ∙ all_pushed [] (map text_of front) v.name.text.0

pub variable_added : (texts : List (List ℕ)) (old new : Variables) (v : Variable) (s : Sort) → s ≡ sort_of (bytes_of texts) v.of → new.next ≡ old.next + 1
    → ((text : ℕ) → sort_at new text ≡ with_first nat_eq (sort_at old) v.name.text.0 s text)
    → ((text : ℕ) → place_at new text ≡ with_first nat_eq (place_at old) v.name.text.0 old.next text) → names_known new ≡ insert_key nat_eq (names_known old) v.name.text.0
    → (front : List Variable) → TellsVariables texts front old → TellsVariables texts (front ++ v ∷ []) new
variable_added texts old new v s e next sorts places names front t =
    let count : old.next ≡ 0 + length front = omega (arith, t.next) in
    record {
      next = omega (arith, next, t.next, length-append front (v ∷ []));
      sorts = λ text.
          sorts text ∙ ap (λ o. option_or o (cond (nat_eq v.name.text.0 text) (Some s) None)) (t.sorts text)
          ∙ ap (λ r. option_or (sort_among texts front text) (cond (nat_eq v.name.text.0 text) (Some r) None)) e ∙ sym (sort_pushed texts front v text);
      places = λ text.
          places text ∙ ap (λ o. option_or o (cond (nat_eq v.name.text.0 text) (Some old.next) None)) (t.places text)
          ∙ ap (λ n. option_or (place_in front text) (cond (nat_eq v.name.text.0 text) (Some n) None)) count ∙ sym (position_pushed (λ w. is_spelt text w.name) 0 front v);
      names = names ∙ ap (λ ks. insert_key nat_eq ks v.name.text.0) t.names ∙ sym (once_pushed front v);
    }

up_to_more : (texts : List (List ℕ)) (vs rest whole : List Variable) (old new : Variables) → TellsUpTo texts (vs ++ rest) whole old
    → ((front : List Variable) → TellsVariables texts front old → TellsVariables texts (front ++ vs) new) → TellsUpTo texts rest whole new
up_to_more texts vs rest whole old new u step = record { front = u.front ++ vs; split = append_assoc u.front vs rest ∙ u.split; tells = step u.front u.tells }

pub arg_next : (texts : List (List ℕ)) (es : List ExprTree) (fields : List Field) (i : ℕ) (x : Field) (whole : List Variable) (old new : Variables)
    → x ≡ slice_index_or fields i x → i < length fields → TellsUpTo texts (variables (fields_at es (drop i fields))) whole old
    → ((front : List Variable) → TellsVariables texts front old → TellsVariables texts (front ++ record { name = x.name; of = type_at es x.of } ∷ []) new)
    → TellsUpTo texts (variables (fields_at es (drop (i + 1) fields))) whole new
arg_next texts es fields i x whole old new is h u step =
    let split : drop i fields ≡ x ∷ drop (i + 1) fields = drop-one fields i x h ∙ ap (λ y. y ∷ drop (i + 1) fields) (sym is) in
    let P : List Field → Type 0 = λ fs. TellsUpTo texts (variables (fields_at es fs)) whole old in
    up_to_more texts (record { name = x.name; of = type_at es x.of } ∷ []) (variables (fields_at es (drop (i + 1) fields))) whole old new (subst P split u) step

pub local_next : (texts : List (List ℕ)) (ts : List StmtTree) (ss : List StmtId) (close : Place) (i : ℕ) (d : StmtId) (whole : List Variable) (old new : Variables)
    → i < length ss → TellsUpTo texts (locals_of (items_at ts (drop i ss) close)) whole old
    → ((front : List Variable) → TellsVariables texts front old → TellsVariables texts (front ++ local_of (stmt_at ts (slice_index_or ss i d))) new)
    → TellsUpTo texts (locals_of (items_at ts (drop (i + 1) ss) close)) whole new
local_next texts ts ss close i d whole old new h u step =
    let P : List StmtId → Type 0 = λ xs. TellsUpTo texts (locals_of (items_at ts xs close)) whole old in
    up_to_more texts (local_of (stmt_at ts (slice_index_or ss i d))) (locals_of (items_at ts (drop (i + 1) ss) close)) whole old new (subst P (drop-one ss i d h) u) step
