-- Facts leave the list, and all sets move with it.
use Rattle.std.proofs.Common.{◌≡◌, ℕ, zero, suc, ◌+◌, ◌<◌, ◌≤◌, Bool, true, false, ◌&&◌, ◌||◌, ◌⊎◌, inl, inr, List, [], ◌∷◌, ◌++◌, length, get_or, take, drop, map, refl, sym, ap, ◌∙◌, subst, arith, add-one}
use Rattle.std.specs.Prelude.{slice_set, nat_eq, replicate}
use Rattle.std.proofs.lemmas.Bool.{cases_eq, cases_lt, eq-eqb, ne_eqb}
use Rattle.std.proofs.lemmas.Bool.Decides.{nat_tests}
use Rattle.std.proofs.lemmas.List.{append-nil, take_more, take_more_set, get_or-drop, drop-drop, drop-set-lt, length-set, length-map, length-take-le, get_or_default}
use Rattle.std.proofs.lemmas.List.Elements.{All-nil, All-cons, All-head, All-tail}
use Rattle.wf_ast.specs.declared.variables.FieldId.{FieldId}
use Rattle.wf_ast.specs.declared.things.Thing.{Thing}
use Rattle.wf_ast.specs.declared.things.Thing.TheVariants as things
use Rattle.wf_ast.specs.declared.typed_nodes.TypedNodes.{TypedNodes}
use Rattle.wf_facts_exprs.specs.declared.facts.Fact.{Fact}
use Rattle.wf_facts_exprs.specs.Claims.{claim_in, claims_in, claim_mentions, is_fact, AreFacts}
use Rattle.wf_facts_exprs.specs.declared.sets.FactSet.{FactSet}
use Rattle.wf_facts_exprs.specs.Sets.{member, members, marked, IsAround, IsSetOf, Within, unmarked}
use Rattle.wf_facts_exprs.specs.NumberedSets.{words_at}
use Rattle.wf_facts_exprs.proofs.NumberedLemmas.{Leaves}
use Rattle.wf_facts.specs.FactLists.{without}
use Rattle.wf_facts.specs.IndexedFacts.{Slots, AreOver, field_set, has_set, set_number, set_of, mentioning}
use Rattle.wf_facts_exprs.specs.Heads.{claim_head, having_head}
use Rattle.wf_facts_exprs.proofs.SetLemmas.{length-members, unmarked-push, unmarked_none, unmarked_one, members_known, all_stay, empty_set, marked_past, none_in_zeros}

-- What stays of the first `i` stands at the front, and the rest is as it was.
pub record Closes {X : Type 0} (dropped : List ℕ) (xs ys : List X) (stay i : ℕ) : Type 0 where
  pub front : take stay ys ≡ unmarked (members dropped i) (take i xs)
  pub rest : drop i ys ≡ drop i xs
  pub behind : stay ≤ i
  pub long : length ys ≡ length xs

pub item_at : {X : Type 0} (xs : List X) (i : ℕ) → i < length xs → (x : X) × (x ≡ get_or xs i x)
item_at [] i h = absurd (omega (arith, h))
item_at (x ∷ xs) zero h = (x, refl)
item_at (x ∷ xs) (suc i) h = item_at xs i (omega (arith, h))

module _ {X : Type 0} (dropped : List ℕ) (xs ys : List X) (stay i : ℕ) (c : Closes dropped xs ys stay i) (within : i < length xs) (x : X) (is : x ≡ get_or ys i x) where
  same_item : x ≡ get_or xs i x
  same_item =
      let z : i + 0 ≡ i = omega arith in
      let P : ℕ → Type 0 = λ n. get_or ys n x ≡ get_or xs n x in
      is ∙ subst P z (sym (get_or-drop i ys 0 x) ∙ ap (λ zs. get_or zs 0 x) c.rest ∙ get_or-drop i xs 0 x)

  rest_on : drop (i + 1) ys ≡ drop (i + 1) xs
  rest_on = sym (drop-drop 1 i ys) ∙ ap (drop 1) c.rest ∙ drop-drop 1 i xs

  front_on : unmarked (members dropped (i + 1)) (take (i + 1) xs) ≡ unmarked (members dropped i) (take i xs) ++ unmarked (member dropped i ∷ []) (x ∷ [])
  front_on =
      let e : length (members dropped i) ≡ length (take i xs) = length-members dropped i ∙ sym (length-take-le i xs (omega (arith, within))) in
      let t : take (i + 1) xs ≡ take i xs ++ x ∷ [] = take_more xs i x within ∙ ap (λ y. take i xs ++ y ∷ []) (sym same_item) in
      rw t (rw (add-one i) (unmarked-push (members dropped i) (take i xs) (member dropped i) x e))

  dropped_on : member dropped i ≡ true → Closes dropped xs ys stay (i + 1)
  dropped_on h = record {
    front = c.front ∙ sym (front_on ∙ rw (unmarked_none (member dropped i) x h) (append-nil _));
    rest = rest_on;
    behind = omega (arith, c.behind);
    long = c.long;
  }

  kept_on : member dropped i ≡ false → Closes dropped xs (slice_set ys stay x) (stay + 1) (i + 1)
  kept_on h = record {
    front = take_more_set ys stay x (omega (arith, c.behind, c.long, within)) ∙ ap (λ zs. zs ++ x ∷ []) c.front ∙ sym (front_on ∙ rw (unmarked_one (member dropped i) x h) refl);
    rest = drop-set-lt (i + 1) ys stay x (omega (arith, c.behind)) ∙ rest_on;
    behind = omega (arith, c.behind);
    long = length-set ys stay x ∙ c.long;
  }

module _ {X : Type 0} (dropped : List ℕ) (xs ys : List X) (stay i : ℕ) (c : Closes dropped xs ys stay i) (within : i < length ys) where
  inside : i < length xs
  inside = omega (arith, within, c.long)

  pub Closes-dropped : member dropped i ≡ true → Closes dropped xs ys stay (i + 1)
  Closes-dropped h = let it = item_at ys i within in dropped_on dropped xs ys stay i c inside it.0 it.1 h

  pub Closes-kept : (d : X) → member dropped i ≡ false → Closes dropped xs (slice_set ys stay (get_or ys i d)) (stay + 1) (i + 1)
  Closes-kept d h = kept_on dropped xs ys stay i c inside (get_or ys i d) (get_or_default ys i d (get_or ys i d) within) h

pub Closes-first : {X : Type 0} (dropped : List ℕ) (xs : List X) (first : ℕ) → ((k : ℕ) → k < first → member dropped k ≡ false) → Closes dropped xs xs first first
Closes-first dropped xs first before = record { front = sym (all_stay dropped first (take first xs) before); rest = refl; behind = omega arith; long = refl }

-- What stays has the marks that stay.
pub map-unmarked : {X Y : Type 0} (f : X → Y) (ms : List Bool) (xs : List X) → map f (unmarked ms xs) ≡ unmarked ms (map f xs)
map-unmarked f [] xs = refl
map-unmarked f (m ∷ ms) [] = refl
map-unmarked f (true ∷ ms) (x ∷ xs) = map-unmarked f ms xs
map-unmarked f (false ∷ ms) (x ∷ xs) = ap (λ ys. f x ∷ ys) (map-unmarked f ms xs)

facts-unmarked : (nodes : TypedNodes) (ms : List Bool) (fs : List Fact) → AreFacts nodes fs → AreFacts nodes (unmarked ms fs)
facts-unmarked nodes [] fs h = h
facts-unmarked nodes (m ∷ ms) [] h = h
facts-unmarked nodes (true ∷ ms) (f ∷ fs) h = facts-unmarked nodes ms fs (All-tail (λ g. is_fact nodes g ≡ true) f fs h)
facts-unmarked nodes (false ∷ ms) (f ∷ fs) h =
    All-cons (λ g. is_fact nodes g ≡ true) f (unmarked ms fs) (All-head (λ g. is_fact nodes g ≡ true) f fs h) (facts-unmarked nodes ms fs (All-tail (λ g. is_fact nodes g ≡ true) f fs h))

pub length-mentioning : (nodes : TypedNodes) (x : Thing) (fs : List Fact) → length fs ≡ length (mentioning nodes x fs)
length-mentioning nodes x [] = refl
length-mentioning nodes x (f ∷ fs) = ap suc (length-mentioning nodes x fs)

pub number_below : (x : Thing) → has_set x ≡ true → set_number x < 260
number_below (things.Local x) h = grind (arith, nat_tests, h)
number_below things.This h = omega arith
number_below things.Args h = omega arith
number_below things.Element h = omega arith
number_below things.SliceLocals h = omega arith
number_below (things.Field x) h = absurd (cc (h))
number_below (things.Arg x) h = absurd (cc (h))

-- What is marked among others stays so.
pub length-within : (ms ws : List Bool) → Within ms ws → length ws ≡ length ms
length-within [] [] h = refl
length-within (m ∷ ms) (w ∷ ws) h = ap suc (length-within ms ws h.1)
length-within [] (w ∷ ws) h = absurd h
length-within (m ∷ ms) [] h = absurd h

within-unmarked : (gone ms ws : List Bool) → Within ms ws → Within (unmarked gone ms) (unmarked gone ws)
within-unmarked [] ms ws h = h
within-unmarked (g ∷ gone) [] [] h = h
within-unmarked (true ∷ gone) (m ∷ ms) (w ∷ ws) h = within-unmarked gone ms ws h.1
within-unmarked (false ∷ gone) (m ∷ ms) (w ∷ ws) h = (h.0, within-unmarked gone ms ws h.1)
within-unmarked (g ∷ gone) [] (w ∷ ws) h = absurd h
within-unmarked (g ∷ gone) (m ∷ ms) [] h = absurd h

abbrev pub AllLeave : (dropped : List ℕ) (n : ℕ) (before after : List FactSet) → Type 0
AllLeave dropped n before after = (k : ℕ) → Leaves dropped n (words_at before k) (words_at after k)

module _ (nodes : TypedNodes) (old : Slots) (dropped : List ℕ) (sets fields heads : List FactSet)
    (sets_moved : AllLeave dropped (length old.list) old.sets sets) (fields_moved : AllLeave dropped (length old.list) old.fields fields) (heads_moved : AllLeave dropped (length old.list) old.heads heads) (over : AreOver nodes old) where
  abbrev gone : List Bool
  gone = members dropped (length old.list)

  left_sets : (x : Thing) → has_set x ≡ true → IsSetOf (words_at sets (set_number x)) (mentioning nodes x (unmarked gone old.list))
  left_sets x h =
      let P : List Bool → Type 0 = IsSetOf (words_at sets (set_number x)) in
      subst P (sym (map-unmarked (λ f. claim_mentions x (claim_in nodes f)) gone old.list)) (sets_moved (set_number x) (mentioning nodes x old.list) (sym (length-mentioning nodes x old.list)) (over.sets x h))

  left_fields : (x : FieldId) → IsAround (words_at fields (field_set x)) (mentioning nodes (things.Field x) (unmarked gone old.list))
  left_fields x =
      let around = over.fields x in
      let long : length around.whole ≡ length old.list = length-within _ around.whole around.holds ∙ sym (length-mentioning nodes (things.Field x) old.list) in
      let P : List Bool → Type 0 = λ ms. Within ms (unmarked gone around.whole) in
      record {
        whole = unmarked gone around.whole;
        is = fields_moved (field_set x) around.whole long around.is;
        holds = subst P (sym (map-unmarked (λ f. claim_mentions (things.Field x) (claim_in nodes f)) gone old.list)) (within-unmarked gone (mentioning nodes (things.Field x) old.list) around.whole around.holds);
      }

  left_heads : (h : ℕ) → h < 256 → IsSetOf (words_at heads h) (having_head nodes h (unmarked gone old.list))
  left_heads h low =
      let P : List Bool → Type 0 = IsSetOf (words_at heads h) in
      subst P (sym (map-unmarked (λ f. nat_eq (claim_head (claim_in nodes f)) h) gone old.list)) (heads_moved h (having_head nodes h old.list) (length-map old.list _) (over.heads h low))

  AreOver-dropped : AreOver nodes (record { list = unmarked gone old.list; sets = sets; fields = fields; heads = heads })
  AreOver-dropped = record { facts = facts-unmarked nodes gone old.list over.facts; sets = left_sets; fields = left_fields; heads = left_heads }

-- The same with what stood before named anew.
pub AreOver-left : (nodes : TypedNodes) (old mid : Slots) (dropped : List ℕ) (list : List Fact) (sets fields heads : List FactSet) (n : ℕ) → mid ≡ old → n ≡ length old.list → list ≡ unmarked (members dropped (length old.list)) old.list
    → AllLeave dropped n mid.sets sets → AllLeave dropped n mid.fields fields → AllLeave dropped n mid.heads heads
    → AreOver nodes old → AreOver nodes (record { list = list; sets = sets; fields = fields; heads = heads })
AreOver-left nodes old mid dropped list sets fields heads n same count left a b c over =
    let N : ℕ → Type 0 = λ m. AllLeave dropped m old.sets sets × AllLeave dropped m old.fields fields × AllLeave dropped m old.heads heads in
    let M : Slots → Type 0 = λ f. AllLeave dropped n f.sets sets × AllLeave dropped n f.fields fields × AllLeave dropped n f.heads heads in
    let moved = subst N count (subst M same (a, b, c)) in
    let R : List Fact → Type 0 = λ fs. AreOver nodes (record { list = fs; sets = sets; fields = fields; heads = heads }) in
    subst R (sym left) (AreOver-dropped nodes old dropped sets fields heads moved.0 moved.1 moved.2 over)

-- The set that stands for a thing.
pub set_found : (known mid : Slots) → mid ≡ known → (x : Thing) → (k : ℕ) → k ≡ set_number x → (words : List ℕ) → words ≡ words_at mid.sets k → words ≡ set_of known x
set_found known mid same x k is words read = read ∙ ap (words_at mid.sets) is ∙ ap (λ f. words_at f.sets (set_number x)) same

pub set_known : (nodes : TypedNodes) (known mid : Slots) → mid ≡ known → (x : Thing) → has_set x ≡ true
    → AreOver nodes known → (k : ℕ) → k ≡ set_number x → (words : List ℕ) → words ≡ words_at mid.sets k → IsSetOf words (mentioning nodes x known.list)
set_known nodes known mid same x h over k is words read =
    let P : List ℕ → Type 0 = λ ws. IsSetOf ws (mentioning nodes x known.list) in
    subst P (sym (set_found known mid same x k is words read)) (over.sets x h)

-- The set around a field.
pub field_known : (nodes : TypedNodes) (known mid : Slots) → mid ≡ known → (x : FieldId) → AreOver nodes known → (k : ℕ) → k ≡ field_set x → (words : List ℕ) → words ≡ words_at mid.fields k
    → IsAround words (mentioning nodes (things.Field x) known.list)
field_known nodes known mid same x over k is words read =
    let P : List ℕ → Type 0 = λ ws. IsAround ws (mentioning nodes (things.Field x) known.list) in
    subst P (sym (read ∙ ap (words_at mid.fields) is ∙ ap (λ f. words_at f.fields (field_set x)) same)) (over.fields x)

pub claims-unmarked : (nodes : TypedNodes) (x : Thing) (fs : List Fact) → claims_in nodes (unmarked (mentioning nodes x fs) fs) ≡ without x (claims_in nodes fs)
claims-unmarked nodes x [] = refl
claims-unmarked nodes x (f ∷ fs) = by (claim_mentions x (claim_in nodes f)) refl (claims-unmarked nodes x fs)
  where
    by : (b : Bool) → claim_mentions x (claim_in nodes f) ≡ b → claims_in nodes (unmarked (mentioning nodes x fs) fs) ≡ without x (claims_in nodes fs)
        → claims_in nodes (unmarked (mentioning nodes x (f ∷ fs)) (f ∷ fs)) ≡ without x (claims_in nodes (f ∷ fs))
    by true h rest = rw h rest
    by false h rest = rw h (ap (λ cs. claim_in nodes f ∷ cs) rest)

-- The facts that a set of what mentions a thing drops.
pub claims-dropped : (nodes : TypedNodes) (x : Thing) (words : List ℕ) (fs : List Fact) → length fs ≤ 512 → IsSetOf words (mentioning nodes x fs)
    → claims_in nodes (unmarked (members words (length fs)) fs) ≡ without x (claims_in nodes fs)
claims-dropped nodes x words fs few set =
    let known = members_known words (mentioning nodes x fs) set (length fs) (length-mentioning nodes x fs) few in
    ap (λ ms. claims_in nodes (unmarked ms fs)) known ∙ claims-unmarked nodes x fs

-- The empty list.
AreOver-empty : (nodes : TypedNodes) → AreOver nodes (record { list = []; sets = []; fields = []; heads = [] })
AreOver-empty nodes = record {
  facts = All-nil (λ f. is_fact nodes f ≡ true);
  sets = λ x h. empty_set;
  fields = λ x. record { whole = []; is = empty_set; holds = tt };
  heads = λ h low. empty_set;
}

pub AreOver-new : (nodes : TypedNodes) (list : List Fact) (sets fields heads : List FactSet) → list ≡ [] → sets ≡ [] → fields ≡ [] → heads ≡ [] → AreOver nodes (record { list = list; sets = sets; fields = fields; heads = heads })
AreOver-new nodes list sets fields heads none a b c =
    let P : List Fact → Type 0 = λ fs. AreOver nodes (record { list = fs; sets = sets; fields = fields; heads = heads }) in
    let Q : List FactSet → Type 0 = λ ss. AreOver nodes (record { list = []; sets = ss; fields = fields; heads = heads }) in
    let R : List FactSet → Type 0 = λ ss. AreOver nodes (record { list = []; sets = []; fields = ss; heads = heads }) in
    let S : List FactSet → Type 0 = λ ss. AreOver nodes (record { list = []; sets = []; fields = []; heads = ss }) in
    subst P (sym none) (subst Q (sym a) (subst R (sym b) (subst S (sym c) (AreOver-empty nodes))))

-- The facts that mention a thing are gathered from a set around them.
pub marked-mentioning : (nodes : TypedNodes) (x : Thing) (fs : List Fact) (i : ℕ) (d : Fact) → i < length fs → marked (mentioning nodes x fs) i ≡ claim_mentions x (claim_in nodes (get_or fs i d))
marked-mentioning nodes x [] i d h = absurd (omega (arith, h))
marked-mentioning nodes x (f ∷ fs) zero d h = refl
marked-mentioning nodes x (f ∷ fs) (suc i) d h = marked-mentioning nodes x fs i d (omega (arith, h))

-- The set has the marked places before i, and none from there on.
pub record Gathers (marks : List Bool) (words : List ℕ) (i : ℕ) : Type 0 where
  pub before : (k : ℕ) → k < i → k < 512 → member words k ≡ marked marks k
  pub later : (k : ℕ) → i ≤ k → k < 512 → member words k ≡ false

within-marked : (ms ws : List Bool) (k : ℕ) → Within ms ws → marked ws k ≡ false → marked ms k ≡ false
within-marked [] ws k h out = refl
within-marked (m ∷ ms) [] k h out = absurd h
within-marked (true ∷ ms) (w ∷ ws) zero h out = absurd (cc (h.0 refl, out))
within-marked (false ∷ ms) (w ∷ ws) zero h out = refl
within-marked (m ∷ ms) (w ∷ ws) (suc k) h out = within-marked ms ws k h.1 out

-- What isn't in the set around isn't marked.
pub Gathers-on : (marks : List Bool) (around words : List ℕ) (i j : ℕ) → i ≤ j → IsAround around marks → ((k : ℕ) → i ≤ k → k < j → member around k ≡ false) → Gathers marks words i → Gathers marks words j
Gathers-on marks around words i j ordered is none g = record {
  before = λ k low few. by k low few (cases_lt k i);
  later = λ k low few. later k low few (cases_lt k i);
}
  where
    out : (k : ℕ) → i ≤ k → k < j → k < 512 → marked marks k ≡ false
    out k a b few = within-marked marks is.whole k is.holds (sym (is.is.at k few) ∙ none k a b)

    by : (k : ℕ) → k < j → k < 512 → (k < i) ⊎ (i ≤ k) → member words k ≡ marked marks k
    by k low few (inl h) = g.before k h few
    by k low few (inr h) = g.later k h few ∙ sym (out k h low few)

    later : (k : ℕ) → j ≤ k → k < 512 → (k < i) ⊎ (i ≤ k) → member words k ≡ false
    later k low few (inl h) = absurd (omega (arith, h, low, ordered))
    later k low few (inr h) = g.later k h few

pub Gathers-put : (marks : List Bool) (words written : List ℕ) (i : ℕ) (b : Bool) → Gathers marks words i → i < 512 → b ≡ marked marks i → ((k : ℕ) → k < 512 → member written k ≡ ((nat_eq k i && b) || member words k)) → Gathers marks written (i + 1)
Gathers-put marks words written i b g low is put = record {
  before = λ k h few. put k few ∙ by k h few (cases_eq k i);
  later = λ k h few. put k few ∙ ap (λ e. (e && b) || member words k) (ne_eqb k i (λ e. absurd (omega (arith, h, e)))) ∙ g.later k (omega (arith, h)) few;
}
  where
    alone : (c : Bool) → ((true && c) || false) ≡ c
    alone true = refl
    alone false = refl

    by : (k : ℕ) → k < i + 1 → k < 512 → (k ≡ i) ⊎ (k ≡ i → ⊥) → ((nat_eq k i && b) || member words k) ≡ marked marks k
    by k h few (inl e) =
        ap (λ c. (c && b) || member words k) (eq-eqb k i e) ∙ ap (λ m. (true && b) || m) (g.later k (omega (arith, e)) few) ∙ alone b ∙ is ∙ ap (marked marks) (sym e)
    by k h few (inr n) = ap (λ c. (c && b) || member words k) (ne_eqb k i n) ∙ g.before k (omega (arith, h, n)) few

pub Gathers-first : (marks : List Bool) → Gathers marks (replicate 8 0) 0
Gathers-first marks = record { before = λ k h few. absurd (omega (arith, h)); later = λ k h few. none_in_zeros k }

pub Gathers-all : (marks : List Bool) (words : List ℕ) (i : ℕ) → length marks ≤ i → Gathers marks words i → IsSetOf words marks
Gathers-all marks words i long g = record { at = λ k low. by k low (cases_lt k i) }
  where
    by : (k : ℕ) → k < 512 → (k < i) ⊎ (i ≤ k) → member words k ≡ marked marks k
    by k low (inl h) = g.before k h low
    by k low (inr h) = g.later k h low ∙ sym (marked_past marks k (omega (arith, long, h)))

-- Whether a fact mentions a thing.
abbrev pub mentions_in : TypedNodes → Thing → Fact → Bool
mentions_in nodes x f = claim_mentions x (claim_in nodes f)
