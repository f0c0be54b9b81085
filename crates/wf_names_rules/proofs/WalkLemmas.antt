-- Walks over expressions: what a walk past one list of uses and then another comes to.
use Rattle.std.proofs.Common.{◌≡◌, ℕ, ◌+◌, ◌<◌, Bool, true, false, ◌&&◌, List, [], ◌∷◌, ◌++◌, length, drop, slice_index_or, Option, Result, map, OnOk, refl, sym, ap, ◌∙◌, subst, add-one, drop-cons}
use Rattle.std.specs.List.{list_all, flat_map}
use Rattle.wf_text.specs.declared.faults.NoMemory.{NoMemory}
use Rattle.wf_text.specs.declared.rules.Refusal.{Refusal}
use Rattle.wf_text.specs.Precedence.{sooner}
use Rattle.wf_ast.specs.declared.parsed.Given.{Given}
use Rattle.wf_ast.specs.declared.parsed.Link.{Link}
use Rattle.wf_ast.specs.declared.parsed.Name.{Name}
use Rattle.wf_ast.specs.declared.parsed.Prefix.{Prefix}
use Rattle.wf_ast.specs.declared.parsed.Prefix.TheVariants as prefixes
use Rattle.wf_ast.specs.declared.parsed.Receiver.{Receiver}
use Rattle.wf_ast.specs.declared.parsed.WrittenMark.{WrittenMark}
use Rattle.wf_ast.specs.ParsedTree.{ExprTree, GivenTrees, TypeTree, call}
use Rattle.wf_ast.specs.ParsedTrees.{expr_at, given_at, links_at, prefixed, all_prefixed}
use Rattle.wf_names_rules.specs.declared.seen.Seen.{Seen}
use Rattle.wf_names_rules.specs.Uses.{Use, method, uses_of, given_uses, link_uses, receiver_uses, type_uses}
use Rattle.wf_names_rules.specs.NodeUses.{prefix_uses}
use Rattle.wf_names_rules.specs.Meanings.{Known, GivenValue, given_values, has_meaning, is_known, callee_of, call_args, parameters_of}
use Rattle.wf_names_rules.specs.Judged.{judged, walked, walked_one, call_finished, given_judged_if, callee_refusal}

pub drop-one : {X : Type 0} (xs : List X) (i : ℕ) (d : X) → i < length xs → drop i xs ≡ slice_index_or xs i d ∷ drop (i + 1) xs
drop-one xs i d h = rw (add-one, drop-cons xs i d) refl

-- The names that a call gives, by its nodes and by its trees.
pub given_names_same : (ts : List ExprTree) (gs : List Given) → map (λ g. g.name) gs ≡ map (λ (g : GivenValue). g.name) (given_values (given_at ts gs))
given_names_same ts [] = refl
given_names_same ts (g ∷ gs) = ap (λ ns. g.name ∷ ns) (given_names_same ts gs)

pub walked-append : (k : Known) (seen : Seen) (us vs : List Use) → walked k seen (us ++ vs) ≡ walked k (walked k seen us) vs
walked-append k seen [] vs = refl
walked-append k seen (u ∷ us) vs = walked-append k (walked_one k seen u) us vs

-- What was seen is the same.
pub ok_same : {X : Type 0} (r : Result X NoMemory) (x s t : Seen) → s ≡ t → OnOk r (x ≡ s) → OnOk r (x ≡ t)
ok_same r x s t e h = let P : Seen → Type 0 = λ u. OnOk r (x ≡ u) in subst P e h

-- The first refusal doesn't depend on what has a meaning before it.
pub walked-found : (k : Known) (s t : Seen) (us : List Use) → s.found ≡ t.found → (walked k s us).found ≡ (walked k t us).found
walked-found k s t [] e = e
walked-found k s t (u ∷ us) e = walked-found k (walked_one k s u) (walked_one k t u) us (ap (λ f. judged k f u) e)

pub walked-known : (k : Known) (s : Seen) (us : List Use) → (walked k s us).known ≡ (s.known && list_all (has_meaning k) us)
walked-known k s [] = sym (and_true s.known)
  where
    and_true : (b : Bool) → (b && true) ≡ b
    and_true true = refl
    and_true false = refl
walked-known k s (u ∷ us) = walked-known k (walked_one k s u) us ∙ and_and s.known (has_meaning k u) (list_all (has_meaning k) us)
  where
    and_and : (a b c : Bool) → ((a && b) && c) ≡ (a && (b && c))
    and_and true b c = refl
    and_and false b c = refl

seen_same : (s t : Seen) → s.found ≡ t.found → s.known ≡ t.known → s ≡ t
seen_same s t f k = let made : Option Refusal → Bool → Seen = λ f k. record { found = f; known = k } in ap (λ f. made f s.known) f ∙ ap (λ k. made t.found k) k

swapped : (a b c : Bool) → (a && (b && c)) ≡ ((a && c) && b)
swapped true true true = refl
swapped true true false = refl
swapped true false true = refl
swapped true false false = refl
swapped false b c = refl

-- A call: what it is made on, then its values, then its method.
pub call_walked : (k : Known) (seen on fresh given all r : Seen) (rec : Receiver) (name : Name) (mark : WrittenMark) (gs : GivenTrees)
    → on ≡ walked k seen (receiver_uses rec) → fresh ≡ record { found = on.found; known = true } → given ≡ walked k fresh (given_uses gs)
    → all ≡ call_finished k given (call rec name mark gs) → r ≡ record { found = all.found; known = on.known && all.known }
    → r ≡ walked k seen (receiver_uses rec ++ (given_uses gs ++ method (call rec name mark gs) ∷ []))
call_walked k seen on fresh given all r rec name mark gs e1 e2 e3 e4 e5 =
    let c = call rec name mark gs in
    let way : walked k seen (receiver_uses rec ++ (given_uses gs ++ method c ∷ [])) ≡ walked_one k (walked k on (given_uses gs)) (method c) =
    walked-append k seen (receiver_uses rec) (given_uses gs ++ method c ∷ []) ∙ ap (λ s. walked k s (given_uses gs ++ method c ∷ [])) (sym e1)
    ∙ walked-append k on (given_uses gs) (method c ∷ []) in
    let known : given.known ≡ list_all (has_meaning k) (given_uses gs) =
    ap (λ (s : Seen). s.known) (e3 ∙ ap (λ s. walked k s (given_uses gs)) e2) ∙ walked-known k (record { found = on.found; known = true }) (given_uses gs) in
    let found : given.found ≡ (walked k on (given_uses gs)).found =
    ap (λ (s : Seen). s.found) e3 ∙ walked-found k fresh on (given_uses gs) (ap (λ (s : Seen). s.found) e2) in
    let is = is_known (callee_of k c) in
    let judge : Bool → Option Refusal → Option Refusal = λ b f. given_judged_if (is && b) k (sooner f (callee_refusal (callee_of k c) name)) (parameters_of k.args (callee_of k c)) name (call_args c) in
    let first : r.found ≡ (walked_one k (walked k on (given_uses gs)) (method c)).found =
    ap (λ (s : Seen). s.found) e5 ∙ ap (λ (s : Seen). s.found) e4 ∙ ap (λ b. judge b given.found) known ∙ ap (judge (list_all (has_meaning k) (given_uses gs))) found in
    let second : r.known ≡ (walked_one k (walked k on (given_uses gs)) (method c)).known =
    ap (λ (s : Seen). s.known) e5 ∙ ap (λ (s : Seen). on.known && s.known) e4 ∙ swapped on.known is given.known ∙ ap (λ b. (on.known && b) && is) known
    ∙ ap (λ b. b && is) (sym (walked-known k on (given_uses gs))) in
    seen_same r (walked_one k (walked k on (given_uses gs)) (method c)) first second ∙ sym way

module _ (k : Known) (ts : List ExprTree) (seen next : Seen) where
  pub given_step : (gs : List Given) (i : ℕ) (d : Given) → i < length gs → next ≡ walked k seen (uses_of (expr_at ts (slice_index_or gs i d).value))
      → walked k next (given_uses (given_at ts (drop (i + 1) gs))) ≡ walked k seen (given_uses (given_at ts (drop i gs)))
  given_step gs i d h e =
      ap (λ s. walked k s (given_uses (given_at ts (drop (i + 1) gs)))) e
      ∙ sym (walked-append k seen (uses_of (expr_at ts (slice_index_or gs i d).value)) (given_uses (given_at ts (drop (i + 1) gs))))
      ∙ sym (ap (λ xs. walked k seen (given_uses (given_at ts xs))) (drop-one gs i d h))

  pub link_step : (ls : List Link) (i : ℕ) (d : Link) → i < length ls → next ≡ walked k seen (uses_of (expr_at ts (slice_index_or ls i d).operand))
      → walked k next (link_uses (links_at ts (drop (i + 1) ls))) ≡ walked k seen (link_uses (links_at ts (drop i ls)))
  link_step ls i d h e =
      ap (λ s. walked k s (link_uses (links_at ts (drop (i + 1) ls)))) e
      ∙ sym (walked-append k seen (uses_of (expr_at ts (slice_index_or ls i d).operand)) (link_uses (links_at ts (drop (i + 1) ls))))
      ∙ sym (ap (λ xs. walked k seen (link_uses (links_at ts xs))) (drop-one ls i d h))

  pub prefix_step : (ps : List Prefix) (i : ℕ) (d : Prefix) → i < length ps → next ≡ walked k seen (prefix_uses ts (slice_index_or ps i d))
      → walked k next (flat_map (prefix_uses ts) (drop (i + 1) ps)) ≡ walked k seen (flat_map (prefix_uses ts) (drop i ps))
  prefix_step ps i d h e =
      ap (λ s. walked k s (flat_map (prefix_uses ts) (drop (i + 1) ps))) e
      ∙ sym (walked-append k seen (prefix_uses ts (slice_index_or ps i d)) (flat_map (prefix_uses ts) (drop (i + 1) ps)))
      ∙ sym (ap (λ xs. walked k seen (flat_map (prefix_uses ts) xs)) (drop-one ps i d h))

-- A type: what stands before its core, then the core.
prefixed_walked : (k : Known) (ts : List ExprTree) (seen : Seen) (p : Prefix) (of : TypeTree)
    → walked k seen (type_uses (prefixed ts p of)) ≡ walked k (walked k seen (prefix_uses ts p)) (type_uses of)
prefixed_walked k ts seen (prefixes.Slice at) of = refl
prefixed_walked k ts seen (prefixes.Array length at) of = walked-append k seen (uses_of (expr_at ts length)) (type_uses of)

pub type_walked : (k : Known) (ts : List ExprTree) (seen : Seen) (ps : List Prefix) (core : TypeTree)
    → walked k (walked k seen (flat_map (prefix_uses ts) ps)) (type_uses core) ≡ walked k seen (type_uses (all_prefixed ts ps core))
type_walked k ts seen [] core = refl
type_walked k ts seen (p ∷ ps) core =
    ap (λ s. walked k s (type_uses core)) (walked-append k seen (prefix_uses ts p) (flat_map (prefix_uses ts) ps))
    ∙ type_walked k ts (walked k seen (prefix_uses ts p)) ps core ∙ sym (prefixed_walked k ts seen p (all_prefixed ts ps core))
