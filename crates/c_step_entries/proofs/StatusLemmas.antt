-- Statuses by their texts, and those of strings.
use Rattle.std.proofs.Common.{◌≡◌, ℕ, zero, suc, ◌+◌, ◌<◌, ◌≤◌, Bool, true, false, ◌||◌, if◌then◌else◌, List, [], ◌∷◌, ◌++◌, length, map, take, drop, get_or, Option, Some, None, is_none, Result, Ok, Err, Vec, Global, IfOk, refl, sym, ap, ◌∙◌, subst, arith}
use Rattle.std.specs.Prelude.{unwrap_or}
use Rattle.std.specs.List.{slice_get, list_any}
use Rattle.std.specs.Option.{option_map, option_or, option_and_then}
use Rattle.std.specs.Str.{bytes_eq}
use Rattle.std.proofs.lemmas.List.{map-append}
use Rattle.std.proofs.lemmas.List.Folds.{list_any-append}
use Rattle.std.proofs.lemmas.Option.{slice_get-map, slice_get-get_or}
use Rattle.wf_text.specs.Surface.{Surface}
use Rattle.wf_text.specs.declared.numbers.StatusId.{StatusId}
use Rattle.wf_text.specs.declared.faults.NoMemory.{NoMemory}
use Rattle.c_text.specs.CTree.{ItemTree}
use Rattle.c_text.specs.CNodes.{bytes_at}
use Rattle.c_text.proofs.Names.{bytes_eq-true, bytes_eq-refl}
use Rattle.c_meaning.specs.CValues.{to_object}
use Rattle.c_meaning.specs.CTypes.{TextDecl, texts_of}
use Rattle.c_meaning.specs.CCall.{Program}
use Rattle.c_meaning.specs.CRun.{status_text}
use Rattle.c_form_exprs.specs.Tables.{named}
use Rattle.c_form_exprs.proofs.FrontLemmas.{bytes_eq-swap}
use Rattle.c_form_exprs.proofs.GrowLemmas.{named_end, take_one_more, texts_append}
use Rattle.c_step_engine.specs.Engines.{number_of}
use Rattle.c_step_engine.specs.Statuses.{AreStatuses}
use Rattle.c_step_entries.specs.Known.{known_among, known_status}

or_parts : (a b : Bool) → (a || b) ≡ false → (a ≡ false) × (b ≡ false)
or_parts true b h = absurd (cc (h))
or_parts false b h = (refl, h)

-- The number of a text that none of those before it is.
number_first : (xs : List (List ℕ)) (j : ℕ) (text : List ℕ) → slice_get xs j ≡ Some text → list_any (bytes_eq text) (take j xs) ≡ false → number_of xs text ≡ j
number_first [] j text is none = absurd (cc (is))
number_first (x ∷ xs) zero text is none = let e : x ≡ text = cc (is) in rw (e, bytes_eq-refl text) refl
number_first (x ∷ xs) (suc j) text is none =
    let parts = or_parts (bytes_eq text x) (list_any (bytes_eq text) (take j xs)) none in
    let apart : bytes_eq x text ≡ false = bytes_eq-swap x text ∙ parts.0 in
    rw apart (ap suc (number_first xs j text is parts.1))

pub number_known : (all : List (List ℕ)) (i : ℕ) (text : List ℕ) → 1 ≤ i → slice_get all i ≡ Some text → list_any (bytes_eq text) (drop 1 (take i all)) ≡ false → number_of all text ≡ (if bytes_eq text (bytes_at all 0) then 0 else i)
number_known [] i text past is none = absurd (cc (is))
number_known (x ∷ xs) zero text past is none = absurd (omega (arith, past))
number_known (x ∷ xs) (suc j) text past is none =
    ap (λ (n : ℕ). if bytes_eq x text then 0 else suc n) (number_first xs j text is none) ∙ ap (λ (b : Bool). if b then 0 else suc j) (bytes_eq-swap x text)

-- The status with a text.
abbrev numbered : (all : List (List ℕ)) → (text : List ℕ) → StatusId
numbered all text = record { 0 = number_of all text }

-- A text more is known.
any_more : (q : List ℕ) (before : List (List ℕ)) (text : List ℕ) → list_any (bytes_eq q) (before ++ text ∷ []) ≡ (list_any (bytes_eq q) before || (bytes_eq q text || false))
any_more q before text = list_any-append (bytes_eq q) before (text ∷ [])

known_fresh : (before all : List (List ℕ)) (text : List ℕ) (id : StatusId) (q : List ℕ) → (list_any (bytes_eq text) before ≡ false → id ≡ numbered all text) → true ≡ is_none (known_among before all text)
    → option_or (known_among before all q) (if bytes_eq q text then Some id else None) ≡ known_among (before ++ text ∷ []) all q
known_fresh before all text id q first fresh =
    by (list_any (bytes_eq q) before) (bytes_eq q text) refl ∙ ap (λ (b : Bool). if b then Some (numbered all q) else None) (sym (any_more q before text))
  where
    unknown : (b : Bool) → true ≡ is_none (if b then Some id else None) → b ≡ false
    unknown true h = absurd (cc (h))
    unknown false h = refl

    none_none : (b : Bool) (x y : StatusId) → true ≡ is_none (if b then Some x else None) → true ≡ is_none (if b then Some y else None)
    none_none true x y h = absurd (cc (h))
    none_none false x y h = refl

    by : (a b : Bool) → bytes_eq q text ≡ b → option_or (if a then Some (numbered all q) else None) (if b then Some id else None) ≡ (if a || (b || false) then Some (numbered all q) else None)
    by true true e = refl
    by true false e = refl
    by false true e =
        let same : q ≡ text = bytes_eq-true q text e in
        let new : list_any (bytes_eq text) before ≡ false = unknown (list_any (bytes_eq text) before) (none_none (list_any (bytes_eq text) before) (numbered all text) id fresh) in
        ap Some (first new ∙ ap (λ (t : List ℕ). numbered all t) (sym same))
    by false false e = refl

known_taken : (before all : List (List ℕ)) (text q : List ℕ) → false ≡ is_none (known_among before all text) → known_among before all q ≡ known_among (before ++ text ∷ []) all q
known_taken before all text q taken =
    by (list_any (bytes_eq q) before) (bytes_eq q text) refl refl ∙ ap (λ (b : Bool). if b then Some (numbered all q) else None) (sym (any_more q before text))
  where
    known : (b : Bool) (x : StatusId) → false ≡ is_none (if b then Some x else None) → b ≡ true
    known true x h = refl
    known false x h = absurd (cc (h))

    by : (a b : Bool) → list_any (bytes_eq q) before ≡ a → bytes_eq q text ≡ b → (if a then Some (numbered all q) else None) ≡ (if a || (b || false) then Some (numbered all q) else None)
    by true b d e = refl
    by false true d e = absurd (
        let same : q ≡ text = bytes_eq-true q text e in
        let it : list_any (bytes_eq text) before ≡ true = known (list_any (bytes_eq text) before) (numbered all text) taken in
        let this : list_any (bytes_eq q) before ≡ true = subst (λ (t : List ℕ). list_any (bytes_eq t) before ≡ true) (sym same) it in
        cc (d, this))
    by false false d e = refl

known_more : (before all : List (List ℕ)) (es new : List (List ℕ × StatusId)) (text : List ℕ) (id : StatusId) (fresh : Bool) → fresh ≡ is_none (named es text) → new ≡ (if fresh then es ++ (text, id) ∷ [] else es)
    → (list_any (bytes_eq text) before ≡ false → id ≡ numbered all text) → ((q : List ℕ) → named es q ≡ known_among before all q) → (q : List ℕ) → named new q ≡ known_among (before ++ text ∷ []) all q
known_more before all es new text id true fresh is first h q =
    ap (λ (xs : List (List ℕ × StatusId)). named xs q) is ∙ (named_end es text id q
    ∙ (ap (λ (o : Option StatusId). option_or o (if bytes_eq q text then Some id else None)) (h q) ∙ known_fresh before all text id q first (fresh ∙ ap is_none (h text))))
known_more before all es new text id false fresh is first h q =
    ap (λ (xs : List (List ℕ × StatusId)). named xs q) is ∙ (h q ∙ known_taken before all text q (fresh ∙ ap is_none (h text)))

-- The statuses but the first, up to one of them.
others_more : (all : List (List ℕ)) (i : ℕ) (text : List ℕ) → 1 ≤ i → slice_get all i ≡ Some text → drop 1 (take (i + 1) all) ≡ drop 1 (take i all) ++ text ∷ []
others_more [] i text past is = absurd (cc (is))
others_more (x ∷ xs) zero text past is = absurd (omega (arith, past))
others_more (x ∷ xs) (suc j) text past is = ap (drop 1) (take_one_more (x ∷ xs) (suc j) text is)

pub table_more : (all : List (List ℕ)) (i : ℕ) (es new : List (List ℕ × StatusId)) (text : List ℕ) (id : StatusId) (fresh : Bool) → 1 ≤ i → slice_get all i ≡ Some text → fresh ≡ is_none (named es text) → new ≡ (if fresh then es ++ (text, id) ∷ [] else es)
    → id.0 ≡ (if bytes_eq text (bytes_at all 0) then 0 else i) → ((q : List ℕ) → named es q ≡ known_among (drop 1 (take i all)) all q) → (q : List ℕ) → named new q ≡ known_among (drop 1 (take (i + 1) all)) all q
table_more all i es new text id fresh past is f g number h q =
    known_more (drop 1 (take i all)) all es new text id fresh f g (λ none. ap (λ (n : ℕ). record { 0 = n }) (number ∙ sym (number_known all i text past is none))) h q
    ∙ ap (λ (others : List (List ℕ)). known_among others all q) (sym (others_more all i text past is))

-- A list's text at a place.
pub text_at : {V : Type 0} (f : V → List ℕ) (xs : List V) (i : ℕ) (v : V) → i < length xs → v ≡ get_or xs i v → slice_get (map f xs) i ≡ Some (f v)
text_at f xs i v within is = slice_get-map f xs i ∙ ap (option_map f) (slice_get-get_or xs i v within ∙ ap Some (sym is))

pub bytes_here : {V : Type 0} (f : V → List ℕ) (xs : List V) (i : ℕ) (v : V) → i < length xs → v ≡ get_or xs i v → bytes_at (map f xs) i ≡ f v
bytes_here f xs i v within is = ap (λ (o : Option (List ℕ)). unwrap_or o []) (text_at f xs i v within is)

-- The statuses of strings, item by item.
pub statuses_more : (es : List (List ℕ × StatusId)) (items : List ItemTree) (i : ℕ) (item : ItemTree) (old new : List (Option StatusId)) → slice_get items i ≡ Some item
    → new ≡ old ++ map (λ t. named es t.bytes) (texts_of (item ∷ [])) → old ≡ map (λ t. named es t.bytes) (texts_of (take i items)) → new ≡ map (λ t. named es t.bytes) (texts_of (take (i + 1) items))
statuses_more es items i item old new is more so_far =
    more ∙ (ap (λ (xs : List (Option StatusId)). xs ++ map (λ t. named es t.bytes) (texts_of (item ∷ []))) so_far
    ∙ (sym (map-append (λ (t : TextDecl). named es t.bytes) (texts_of (take i items)) (texts_of (item ∷ [])))
    ∙ ap (map (λ (t : TextDecl). named es t.bytes)) (sym (ap texts_of (take_one_more items i item is) ∙ texts_append (take i items) (item ∷ [])))))

pub are_statuses : (p : Program) (s : Surface) (es : List (List ℕ × StatusId)) (statuses : List (Option StatusId)) → statuses ≡ map (λ t. named es t.bytes) p.texts → ((text : List ℕ) → named es text ≡ known_status s.statuses text) → AreStatuses p s statuses
are_statuses p s es statuses is known k =
    ap (λ (xs : List (Option StatusId)). option_and_then (λ it. it) (slice_get xs k)) is
    ∙ (ap (option_and_then (λ it. it)) (slice_get-map (λ (t : TextDecl). named es t.bytes) p.texts k) ∙ by (slice_get p.texts k) refl)
  where
    one : (b : Bool) (text : List ℕ) → (if b then Some (numbered s.statuses text) else None) ≡ option_map (λ t. numbered s.statuses t) (if b then Some text else None)
    one true text = refl
    one false text = refl

    by : (o : Option TextDecl) → slice_get p.texts k ≡ o → option_and_then (λ it. it) (option_map (λ t. named es t.bytes) o) ≡ option_map (λ t. numbered s.statuses t) (status_text p s (to_object k))
    by None e = rw e refl
    by (Some t) e = rw e (known t.bytes ∙ one (list_any (bytes_eq t.bytes) (drop 1 s.statuses)) t.bytes)

pub told : (p : Program) (s : Surface) (es : List (List ℕ × StatusId)) (r : Result (Vec (Option StatusId) Global) NoMemory) → ((text : List ℕ) → named es text ≡ known_status s.statuses text) → IfOk r (λ it. it.items ≡ map (λ t. named es t.bytes) p.texts) → IfOk r (λ it. AreStatuses p s it.items)
told p s es (Ok it) known is = are_statuses p s es it.items is known
told p s es (Err fault) known is = tt
