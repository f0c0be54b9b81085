-- What is found at declarations, one after the other.
use Rattle.std.proofs.Common.{◌≡◌, ◌∙◌, refl, sym, ap, subst, ℕ, ◌+◌, ◌<◌, ◌≤◌, Bool, false, not, ◌&&◌, ◌||◌, List, [], ◌∷◌, ◌++◌, length, drop, slice_get, slice_index_or, map, Option, Some, None, option_map, option_and_then, nat_eq}
use Rattle.std.specs.List.{flat_map}
use Rattle.std.proofs.lemmas.List.{append_assoc, drop_all}
use Rattle.std.proofs.lemmas.Grind.{flat_map-append}
use Rattle.std.proofs.lemmas.Option.{slice_get-map}
use Rattle.wf_text.specs.declared.rules.Refusal.{Refusal}
use Rattle.wf_text.specs.declared.rules.Rule.TheVariants.{T5}
use Rattle.wf_text.specs.Precedence.{sooner, soonest, told}
use Rattle.wf_ast.specs.declared.types.Ty.{Ty}
use Rattle.wf_named.specs.NamedTree.{ConstTree, Word, NamedStructTree, NamedPackageTree}
use Rattle.wf_named.specs.WellNamed.{fields_in}
use Rattle.wf_types_rules.specs.declared.meanings.Constant.{Constant}
use Rattle.wf_types_rules.specs.declared.settings.Role.TheVariants as roles
use Rattle.wf_types_rules.specs.declared.settings.Setting.{Setting}
use Rattle.wf_types_rules.specs.DeclaredTypes.{declared, among_constants, constant_with, constant_made, constants_after, types_in}
use Rattle.wf_types_rules.specs.ExprTypes.{number_of}
use Rattle.wf_types_rules.specs.Meanings.{constant_number}
use Rattle.wf_types_rules.specs.Judgements.{at_if, value_of, two_questions, is_status_text}
use Rattle.wf_types_rules.specs.Parts.{Part, Site, constant_declared, status_declared, declared_parts, expr_parts, at_sites, const_sites}
use Rattle.wf_types_rules.specs.FirstBreak.{refusals_at, refusals_of}
use Rattle.wf_types_rules.specs.declared.meanings.PlacedMeaning.{PlacedMeaning}
use Rattle.wf_types_exprs.specs.Judged.{judged}
use Rattle.wf_types_exprs.proofs.JudgedLaws.{judged-append, judged-last}
use Rattle.wf_types_exprs.proofs.ListLemmas.{drop-one}
use Rattle.wf_types_decls.specs.Packages.{decided, field_types, types_or_none, constant_found, questions_behind}

soonest-append : (found : Option Refusal) (xs ys : List (Option Refusal)) → soonest found (xs ++ ys) ≡ soonest (soonest found xs) ys
soonest-append found [] ys = refl
soonest-append found (x ∷ xs) ys = soonest-append (sooner found x) xs ys

pub decided-append : (found : Option Refusal) (xs ys : List Site) → decided found (xs ++ ys) ≡ decided (decided found xs) ys
unfolding decided
decided-append found xs ys = ap (soonest found) (flat_map-append refusals_of xs ys) ∙ soonest-append found (flat_map refusals_of xs) (flat_map refusals_of ys)

pub decided-none : (found : Option Refusal) → decided found [] ≡ found
unfolding decided
decided-none found = refl

-- Parts with one setting round them.
sites_alone : (s : Setting) (parts : List Part) → flat_map refusals_of (at_sites s parts) ≡ flat_map (refusals_at s) parts
sites_alone s [] = refl
sites_alone s (x ∷ xs) = ap (λ rs. refusals_at s x ++ rs) (sites_alone s xs)

decided_plain : (found : Option Refusal) (xs : List Site) → decided found xs ≡ soonest found (flat_map refusals_of xs)
unfolding decided
decided_plain found xs = refl

judged_plain : (s : Setting) (found : Option Refusal) (parts : List Part) → judged s found parts ≡ soonest found (flat_map (refusals_at s) parts)
unfolding judged
judged_plain s found parts = refl

pub decided-sites : (s : Setting) (found : Option Refusal) (parts : List Part) → decided found (at_sites s parts) ≡ judged s found parts
decided-sites s found parts = decided_plain found (at_sites s parts) ∙ ap (soonest found) (sites_alone s parts) ∙ sym (judged_plain s found parts)

-- A constant after its parts.
constant_alone : (s : Setting) (found : Option Refusal) (c : ConstTree) → constant_found (declared s roles.Const c.of) (value_of s c.value) found ≡ judged s found (constant_declared c ∷ [])
unfolding judged
constant_alone s found c = refl

pub constant_judged : (s : Setting) (found first before : Option Refusal) (c : ConstTree) (ty : Option Ty) (v : PlacedMeaning) → ty ≡ declared s roles.Const c.of → v ≡ value_of s c.value
    → first ≡ judged s found (declared_parts roles.Const c.of) → before ≡ judged s first (expr_parts c.value)
    → constant_found ty v before ≡ judged s found (constant_declared c ∷ (declared_parts roles.Const c.of ++ expr_parts c.value))
constant_judged s found first before c ty v type value e f =
    ap (λ t. constant_found t v before) type ∙ ap (λ w. constant_found (declared s roles.Const c.of) w before) value ∙ constant_alone s before c
    ∙ ap (λ b. judged s b (constant_declared c ∷ [])) (f ∙ ap (λ b. judged s b (expr_parts c.value)) e ∙ sym (judged-append s found (declared_parts roles.Const c.of) (expr_parts c.value)))
    ∙ judged-last s found (constant_declared c) (declared_parts roles.Const c.of ++ expr_parts c.value)

pub constant_known : (s : Setting) (c : ConstTree) (ty : Option Ty) (v : PlacedMeaning) (of : Option Constant) → of ≡ constant_with ty (option_and_then constant_number v.of) → ty ≡ declared s roles.Const c.of
    → v ≡ value_of s c.value → (known : List (Option Constant)) → s ≡ among_constants known → of ≡ constant_made known c
constant_known s c ty v of e type value known k =
    e ∙ ap (λ t. constant_with t (option_and_then constant_number v.of)) type ∙ ap (λ (w : PlacedMeaning). constant_with (declared s roles.Const c.of) (option_and_then constant_number w.of)) value
    ∙ ap (λ r. constant_with (declared r roles.Const c.of) (number_of r c.value)) k

pub constants_with : (known : List (Option Constant)) (c : ConstTree) (s t : Setting) (of : Option Constant) → t ≡ record s { constants = s.constants ++ of ∷ [] } → s ≡ among_constants known
    → of ≡ constant_made known c → t ≡ among_constants (known ++ constant_made known c ∷ [])
constants_with known c s t of e k h = e ∙ ap (λ (r : Setting). record r { constants = r.constants ++ of ∷ [] }) k ∙ ap (λ o. among_constants (known ++ o ∷ [])) h

-- Constants that are left, where those before them are known.
pub record ConstsJudged (all left : List ConstTree) (before found : Option Refusal) (around : Setting) : Type 0 where
  pub known : List (Option Constant)
  pub is : around ≡ among_constants known
  pub decides : decided found (const_sites known left) ≡ decided before (const_sites [] all)
  pub after : constants_after known left ≡ constants_after [] all

pub consts_begun : (all : List ConstTree) (before : Option Refusal) (around : Setting) → around ≡ among_constants [] → ConstsJudged all all before before around
consts_begun all before around e = record { known = []; is = e; decides = refl; after = refl }

abbrev pub const_parts : ConstTree → List Part
const_parts c = constant_declared c ∷ (declared_parts roles.Const c.of ++ expr_parts c.value)

pub consts_next : (all left : List ConstTree) (c : ConstTree) (before found next : Option Refusal) (around behind : Setting) → ConstsJudged all (c ∷ left) before found around → next ≡ judged around found (const_parts c)
    → ((known : List (Option Constant)) → around ≡ among_constants known → behind ≡ among_constants (known ++ constant_made known c ∷ [])) → ConstsJudged all left before next behind
consts_next all left c before found next around behind h e step = record {
  known = h.known ++ constant_made h.known c ∷ [];
  is = step h.known h.is;
  decides =
      let s = among_constants h.known in
      let others = const_sites (h.known ++ constant_made h.known c ∷ []) left in
      ap (λ b. decided b others) (e ∙ ap (λ a. judged a found (const_parts c)) h.is ∙ sym (decided-sites s found (const_parts c)))
      ∙ sym (decided-append found (at_sites s (const_parts c)) others) ∙ h.decides;
  after = h.after;
}

pub consts_over : (all : List ConstTree) (before found : Option Refusal) (around : Setting) → ConstsJudged all [] before found around
    → (found ≡ decided before (const_sites [] all)) × (around ≡ among_constants (constants_after [] all))
consts_over all before found around h = (sym (decided-none found) ∙ h.decides, h.is ∙ ap among_constants h.after)

-- A status.
pub status_alone : (s : Setting) (found : Option Refusal) (w : Word) (wrong : Bool) → wrong ≡ not (is_status_text w.text)
    → sooner found (told T5 (at_if wrong w.at)) ≡ judged s found (status_declared w ∷ [])
unfolding judged
status_alone s found w wrong e = ap (λ b. sooner found (told T5 (at_if b w.at))) e

-- Two `?` in a row.
pub questions_begun : (bs : List ℕ) → questions_behind false bs ≡ two_questions bs
questions_begun [] = refl
questions_begun (b ∷ bs) = questions_same b bs
  where
    questions_same : (b : ℕ) (bs : List ℕ) → questions_behind (nat_eq b 63) bs ≡ two_questions (b ∷ bs)
    questions_same b [] = refl
    questions_same b (c ∷ bs) = ap (λ q. (nat_eq b 63 && nat_eq c 63) || q) (questions_same c bs)

-- The types of a struct's fields.
pub own_fields : (p : NamedPackageTree) (n : ℕ) → types_or_none (slice_get (field_types p) n) ≡ types_in p roles.Field (fields_in p (Some n))
own_fields p n = rw (slice_get-map (λ (x : NamedStructTree). types_in p roles.Field x.fields) p.structs n) (of_one (slice_get p.structs n) refl)
  where
    of_one : (x : Option NamedStructTree) → slice_get p.structs n ≡ x → types_or_none (option_map (λ (y : NamedStructTree). types_in p roles.Field y.fields) x) ≡ types_in p roles.Field (fields_in p (Some n))
    of_one None e = rw e refl
    of_one (Some x) e = rw e refl

-- Declarations, one after the other: `made` gives the tree of each, `parts` its parts, and `known` what is kept of it.
pub all_passed : {X : Type 0} (items xs : List X) (i : ℕ) → items ≡ xs → length items ≤ i → drop i xs ≡ []
all_passed items xs i is past = ap (drop i) (sym is) ∙ drop_all i items past

module _ {X Y : Type 0} (made : X → Y) (items xs : List X) (is : items ≡ xs) (i : ℕ) (x d : X) (named : x ≡ slice_index_or items i d) (h : i < length items) where
  pub made_next : map made (drop i xs) ≡ made x ∷ map made (drop (i + 1) xs)
  made_next =
      ap (λ ys. map made (drop i ys)) (sym is) ∙ ap (map made) (drop-one items i d h)
      ∙ ap (λ y. made y ∷ map made (drop (i + 1) items)) (sym named) ∙ ap (λ ys. made x ∷ map made (drop (i + 1) ys)) is

  pub parts_next : (s : Setting) (parts : Y → List Part) (before next : Option Refusal) → next ≡ judged s before (parts (made x))
      → judged s next (flat_map parts (map made (drop (i + 1) xs))) ≡ judged s before (flat_map parts (map made (drop i xs)))
  parts_next s parts before next e =
      let others = flat_map parts (map made (drop (i + 1) xs)) in
      ap (λ f. judged s f others) e ∙ sym (judged-append s before (parts (made x)) others) ∙ sym (ap (λ ys. judged s before (flat_map parts ys)) made_next)

  pub part_next : (s : Setting) (part : Y → Part) (before next : Option Refusal) → next ≡ judged s before (part (made x) ∷ [])
      → judged s next (map part (map made (drop (i + 1) xs))) ≡ judged s before (map part (map made (drop i xs)))
  part_next s part before next e =
      let others = map part (map made (drop (i + 1) xs)) in
      ap (λ f. judged s f others) e ∙ sym (judged-append s before (part (made x) ∷ []) others) ∙ sym (ap (λ ys. judged s before (map part ys)) made_next)

  pub sites_next : (sites : Y → List Site) (before next : Option Refusal) → next ≡ decided before (sites (made x))
      → decided next (flat_map sites (map made (drop (i + 1) xs))) ≡ decided before (flat_map sites (map made (drop i xs)))
  sites_next sites before next e =
      let others = flat_map sites (map made (drop (i + 1) xs)) in
      ap (λ f. decided f others) e ∙ sym (decided-append before (sites (made x)) others) ∙ sym (ap (λ ys. decided before (flat_map sites ys)) made_next)

  pub known_next : {Z : Type 0} (known : Y → Z) (before next : List Z) → next ≡ before ++ known (made x) ∷ []
      → (next ++ map known (map made (drop (i + 1) xs))) ≡ (before ++ map known (map made (drop i xs)))
  known_next known before next e =
      let others = map known (map made (drop (i + 1) xs)) in
      ap (λ zs. zs ++ others) e ∙ append_assoc before (known (made x) ∷ []) others ∙ sym (ap (λ ys. before ++ map known ys) made_next)

  -- What is kept is what is made.
  pub made_kept : (before next : List Y) → next ≡ before ++ made x ∷ [] → (next ++ map made (drop (i + 1) xs)) ≡ (before ++ map made (drop i xs))
  made_kept before next e =
      ap (λ zs. zs ++ map made (drop (i + 1) xs)) e ∙ append_assoc before (made x ∷ []) (map made (drop (i + 1) xs)) ∙ sym (ap (λ ys. before ++ ys) made_next)

pub kept_next : {X Y : Type 0} (xs : List X) (made : X → Y) (i : ℕ) (d : X) → i < length xs → (before next : List Y) → next ≡ before ++ made (slice_index_or xs i d) ∷ []
    → (next ++ map made (drop (i + 1) xs)) ≡ (before ++ map made (drop i xs))
kept_next xs made i d h before next e = made_kept made xs xs refl i (slice_index_or xs i d) d refl h before next e

-- Constants likewise.
module _ {X : Type 0} (made : X → ConstTree) (items xs : List X) (is : items ≡ xs) (i : ℕ) where
  pub const_next : (x d : X) (named : x ≡ slice_index_or items i d) (h : i < length items) (before found next : Option Refusal) (around behind : Setting)
      → ConstsJudged (map made xs) (map made (drop i xs)) before found around → next ≡ judged around found (const_parts (made x))
      → ((known : List (Option Constant)) → around ≡ among_constants known → behind ≡ among_constants (known ++ constant_made known (made x) ∷ []))
      → ConstsJudged (map made xs) (map made (drop (i + 1) xs)) before next behind
  const_next x d named h before found next around behind k e step =
      let P : List ConstTree → Type 0 = λ left. ConstsJudged (map made xs) left before found around in
      consts_next (map made xs) (map made (drop (i + 1) xs)) (made x) before found next around behind (subst P (made_next made items xs is i x d named h) k) e step

  pub consts_passed : (past : length items ≤ i) (before found : Option Refusal) (around : Setting) → ConstsJudged (map made xs) (map made (drop i xs)) before found around
      → (found ≡ decided before (const_sites [] (map made xs))) × (around ≡ among_constants (constants_after [] (map made xs)))
  consts_passed past before found around k =
      let P : List X → Type 0 = λ left. ConstsJudged (map made xs) (map made left) before found around in
      consts_over (map made xs) before found around (subst P (all_passed items xs i is past) k)
