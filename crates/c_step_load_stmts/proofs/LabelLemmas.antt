-- Labels, one statement after the other.
use Rattle.std.proofs.Common.{◌≡◌, ◌≤◌, ◌+◌, ℕ, zero, suc, Bool, true, false, if◌then◌else◌, List, [], ◌∷◌, ◌++◌, length, map, take, Option, Some, None, is_none, refl, sym, ap, ◌∙◌, subst}
use Rattle.std.specs.Prelude.{bytes_eq, slice_get}
use Rattle.std.specs.Option.{option_or}
use Rattle.std.proofs.lemmas.List.{take_all}
use Rattle.c_text.specs.CNodes.{Nodes, made_code}
use Rattle.c_text.specs.CTree.{ExprTree, Code}
use Rattle.c_text.specs.declared.ids.CNameId.{CNameId}
use Rattle.c_text.specs.declared.ids.CStmtId.{CStmtId}
use Rattle.c_text.specs.declared.nodes.CStmt.{CStmt}
use Rattle.c_text.specs.declared.nodes.CStmt.TheVariants as stmt
use Rattle.c_meaning.specs.CStep.{by_name}
use Rattle.c_form_exprs.specs.Tables.{named}
use Rattle.c_form_exprs.proofs.GrowLemmas.{named_end, taken_not}
use Rattle.c_step_text.specs.Layout.{first_number, number_here, seek}
use Rattle.c_step_places.specs.declared.listing.Place.{Place}
use Rattle.c_step_places.specs.Marks.{marked, first_marked}
use Rattle.c_step_places.specs.Places.{PlaceTree, place_in, places_of, HasPlace, HasPlaces}
use Rattle.c_step_places.proofs.MarkLemmas.{marks_append, names_found}
use Rattle.c_step_load_stmts.specs.Bodies.{HasLabels}

same_first : (a b : Option ℕ) → option_or a b ≡ first_number a b
same_first None b = refl
same_first (Some n) b = refl

one_label : (q n : List ℕ) (i : ℕ) → (if bytes_eq q n then Some i else None) ≡ number_here (bytes_eq q n) i None
one_label q n i = by (bytes_eq q n)
  where
    by : (b : Bool) → (if b then Some i else None) ≡ number_here b i None
    by true = refl
    by false = refl

label_fresh : (es : List (List ℕ × ℕ)) (before : List PlaceTree) (n : List ℕ) (i : ℕ) (p : PlaceTree) → ((q : List ℕ) → first_marked (by_name q) (p ∷ []) ≡ number_here (bytes_eq q n) i None) → HasLabels es before → HasLabels (es ++ (n, i) ∷ []) (before ++ p ∷ [])
label_fresh es before n i p is h q =
    named_end es n i q ∙ (same_first (named es q) (if bytes_eq q n then Some i else None) ∙ (ap (λ (o : Option ℕ). first_number o (if bytes_eq q n then Some i else None)) (h q) ∙ (ap (first_number (first_marked (by_name q) before)) (one_label q n i ∙ sym (is q)) ∙ sym (marks_append (by_name q) before (p ∷ [])))))

label_taken : (es : List (List ℕ × ℕ)) (before : List PlaceTree) (n : List ℕ) (i : ℕ) (p : PlaceTree) → ((q : List ℕ) → first_marked (by_name q) (p ∷ []) ≡ number_here (bytes_eq q n) i None) → false ≡ is_none (named es n) → HasLabels es before → HasLabels es (before ++ p ∷ [])
label_taken es before n i p is taken h q = by (named es q) refl
  where
    by : (o : Option ℕ) → named es q ≡ o → named es q ≡ first_marked (by_name q) (before ++ p ∷ [])
    by None e = e ∙ sym (marks_append (by_name q) before (p ∷ []) ∙ (ap (λ (o : Option ℕ). first_number o (first_marked (by_name q) (p ∷ []))) (sym (h q) ∙ e) ∙ (is q ∙ ap (λ (b : Bool). number_here b i None) (taken_not es n q taken e))))
    by (Some k) e = e ∙ sym (marks_append (by_name q) before (p ∷ []) ∙ ap (λ (o : Option ℕ). first_number o (first_marked (by_name q) (p ∷ []))) (sym (h q) ∙ e))

pub label_more : (es new : List (List ℕ × ℕ)) (before : List PlaceTree) (n : List ℕ) (i : ℕ) (p : PlaceTree) (fresh : Bool) → ((q : List ℕ) → first_marked (by_name q) (p ∷ []) ≡ number_here (bytes_eq q n) i None) → fresh ≡ is_none (named es n) → new ≡ (if fresh then es ++ (n, i) ∷ [] else es) → HasLabels es before → HasLabels new (before ++ p ∷ [])
label_more es new before n i p true is f g h = subst (λ (xs : List (List ℕ × ℕ)). HasLabels xs (before ++ p ∷ [])) (sym g) (label_fresh es before n i p is h)
label_more es new before n i p false is f g h = subst (λ (xs : List (List ℕ × ℕ)). HasLabels xs (before ++ p ∷ [])) (sym g) (label_taken es before n i p is f h)

pub no_label : (es : List (List ℕ × ℕ)) (before : List PlaceTree) (p : PlaceTree) → ((q : List ℕ) → first_marked (by_name q) (p ∷ []) ≡ None) → HasLabels es before → HasLabels es (before ++ p ∷ [])
no_label es before p is h q = h q ∙ (sym (ends (first_marked (by_name q) before)) ∙ (ap (first_number (first_marked (by_name q) before)) (sym (is q)) ∙ sym (marks_append (by_name q) before (p ∷ []))))
  where
    ends : (o : Option ℕ) → first_number o None ≡ o
    ends None = refl
    ends (Some n) = refl

pub all_labels : (nodes : Nodes) (table : List (List ℕ × ℕ)) (ps : List Place) (i start : ℕ) (body : Code) → length ps ≤ i → HasLabels table (map (place_in nodes) (take i ps)) → map (place_in nodes) ps ≡ places_of true start body → (name : List ℕ) → named table name ≡ seek (by_name name) start body
all_labels nodes table ps i start body past h is name = h name ∙ (ap (λ (xs : List Place). first_marked (by_name name) (map (place_in nodes) xs)) (take_all i ps past) ∙ (ap (first_marked (by_name name)) is ∙ names_found name start body))

pub marked_none : (names : List (List ℕ)) (look : ℕ → ExprTree) (code : ℕ → Code) (node : CStmt) → ((n : CNameId) (r : CStmtId) → node ≡ stmt.Label n r → ⊥) → (q : List ℕ) (i : ℕ) → marked (by_name q) i (made_code names look code node) None ≡ None
marked_none names look code stmt.End apart q i = refl
marked_none names look code (stmt.Block b r) apart q i = refl
marked_none names look code (stmt.Empty r) apart q i = refl
marked_none names look code (stmt.Assign t v r) apart q i = refl
marked_none names look code (stmt.Call t c r) apart q i = refl
marked_none names look code (stmt.Goto n r) apart q i = refl
marked_none names look code (stmt.If e b k o r) apart q i = refl
marked_none names look code (stmt.While e b r) apart q i = refl
marked_none names look code (stmt.Switch e b r) apart q i = refl
marked_none names look code (stmt.Return v r) apart q i = refl
marked_none names look code (stmt.Case n r) apart q i = refl
marked_none names look code (stmt.Default r) apart q i = refl
marked_none names look code (stmt.Label n r) apart q i = absurd (apart n r refl)

pub place_at : (nodes : Nodes) (ps : List Place) (i : ℕ) (p : Place) → slice_get ps i ≡ Some p → HasPlaces nodes ps → HasPlace nodes p
place_at nodes [] i p e h = absurd (cc (e))
place_at nodes (x ∷ ps) zero p e h = let s : x ≡ p = cc (e) in subst (HasPlace nodes) s h.0
place_at nodes (x ∷ ps) (suc i) p e h = place_at nodes ps i p e h.1
