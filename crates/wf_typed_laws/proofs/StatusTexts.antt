-- The texts of statuses hold what may stand between quotes, and no two `?` in a row: the package's name and what stands round it
-- bring none.
use Rattle.std.proofs.Common.{◌≡◌, ◌∙◌, ℕ, Bool, true, false, not, ◌&&◌, ◌||◌, nat_eq, List, [], ◌∷◌, ◌++◌, map, Option, None, Some, slice_get, refl, ap, arith}
use Rattle.std.proofs.lemmas.Bool.Decides.{nat_tests}
use Rattle.std.specs.List.{AllByRecursion, list_all}
use Rattle.wf_text.specs.Precedence.{refused}
use Rattle.wf_text.specs.declared.place.Place.{Place}
use Rattle.wf_text.specs.declared.rules.Refusal.{Refusal}
use Rattle.wf_ast.specs.declared.parsed.Name.{Name}
use Rattle.wf_ast.specs.BaseStatuses.{base_statuses}
use Rattle.wf_ast.specs.ParsedTree as parsed
use Rattle.wf_ast.specs.ParsedTree.{DeclTree}
use Rattle.wf_tokens.specs.Runs.{is_run, is_text_byte}
use Rattle.wf_ast.specs.ReadPackage.{decls_of}
use Rattle.wf_named.specs.NamedTree.{NamedPackageTree, Word}
use Rattle.wf_names_rules.specs.Declarations.{declared, statuses_of, bytes_in, text_of}
use Rattle.wf_names_resolve.specs.Package.{resolved_package}
use Rattle.wf_names_resolve.specs.Resolved.{word_of}
use Rattle.wf_types_rules.specs.DeclaredTypes.{for_types}
use Rattle.wf_types_rules.specs.Judgements.{two_questions, is_status_text, wrong_status}
use Rattle.wf_types_rules.specs.Parts.{Part, Site, sites, at_sites, const_sites, status_declared}
use Rattle.wf_types_rules.specs.TypeRules.{Breaks}
use Rattle.wf_types_rules.proofs.TypeRows as rows
use Rattle.wf_text.specs.declared.rules.Rule.TheVariants.{T5}
use Rattle.wf_typed_tree.specs.ElaboratedPackage.{seen_text, typed_package}
use Rattle.wf_typed_laws.specs.StatusTexts.{is_plain_text, ReadStatusesArePlain}
use Rattle.wf_typed_laws.proofs.ListLemmas.{all-from, all-front, all-behind, all-of-map}
use Rattle.wf_typed_laws.proofs.DeclNames.{DeclIsGood}
use Rattle.wf_typed_laws.proofs.ReadNames.{IsQuoted, IsSpelt, names-spelt}

-- Letters, digits and `_` may stand between quotes, and are no `?`.
run-quotable : (b : ℕ) → is_run b ≡ true → is_text_byte b ≡ true
run-quotable b h = grind (arith, nat_tests, h)

run-asks-nothing : (b : ℕ) → is_run b ≡ true → nat_eq b 63 ≡ false
run-asks-nothing b h = grind (arith, nat_tests, h)

and-both : (a b : Bool) → (a && b) ≡ true → (a ≡ true) × (b ≡ true)
and-both true true h = (refl, refl)
and-both true false h = absurd (cc h)
and-both false b h = absurd (cc h)

and-false : (a : Bool) → (a && false) ≡ false
and-false true = refl
and-false false = refl

or-second : (a b : Bool) → (a || b) ≡ false → b ≡ false
or-second true b h = absurd (cc h)
or-second false b h = h

not-true : (a : Bool) → not a ≡ true → a ≡ false
not-true true h = absurd (cc h)
not-true false h = refl

runs-quotable : (name rest : List ℕ) → list_all is_run name ≡ true → list_all is_text_byte rest ≡ true → list_all is_text_byte (name ++ rest) ≡ true
runs-quotable [] rest n r = r
runs-quotable (b ∷ name) rest n r =
    let both = and-both (is_run b) (list_all is_run name) n in
    let first = run-quotable b both.0 in
    let others = runs-quotable name rest both.1 r in
    rw (first, others) refl

-- What stands before bytes without two `?` in a row.
behind-another : (b : ℕ) (rest : List ℕ) → nat_eq b 63 ≡ false → two_questions rest ≡ false → two_questions (b ∷ rest) ≡ false
behind-another b [] h r = refl
behind-another b (c ∷ rest) h r = rw h r

before-another : (a b : ℕ) (rest : List ℕ) → nat_eq b 63 ≡ false → two_questions (b ∷ rest) ≡ false → two_questions (a ∷ b ∷ rest) ≡ false
before-another a b rest h r = rw (h, and-false (nat_eq a 63)) r

runs-ask-nothing : (name rest : List ℕ) → list_all is_run name ≡ true → two_questions rest ≡ false → two_questions (name ++ rest) ≡ false
runs-ask-nothing [] rest n r = r
runs-ask-nothing (b ∷ name) rest n r =
    let both = and-both (is_run b) (list_all is_run name) n in
    behind-another b (name ++ rest) (run-asks-nothing b both.0) (runs-ask-nothing name rest both.1 r)

first-then-run : (a : ℕ) (name rest : List ℕ) → list_all is_run name ≡ true → two_questions (58 ∷ rest) ≡ false → two_questions (a ∷ (name ++ (58 ∷ rest))) ≡ false
first-then-run a [] rest n r = before-another a 58 rest refl r
first-then-run a (b ∷ name) rest n r =
    let both = and-both (is_run b) (list_all is_run name) n in
    before-another a b (name ++ (58 ∷ rest)) (run-asks-nothing b both.0) (runs-ask-nothing (b ∷ name) (58 ∷ rest) n r)

plain-when : (text : List ℕ) → list_all is_text_byte text ≡ true → two_questions text ≡ false → is_plain_text text ≡ true
plain-when text bytes asks = rw (bytes, asks) refl

-- A status as a caller sees it.
seen-plain : (name text : List ℕ) → list_all is_run name ≡ true → list_all is_text_byte text ≡ true → is_status_text text ≡ true → is_plain_text (seen_text name text) ≡ true
seen-plain name [] n t s = refl
seen-plain name (a ∷ []) n t s = absurd (cc s)
seen-plain name (a ∷ b ∷ rest) n t s =
    let bytes = and-both (is_text_byte a) (list_all is_text_byte (b ∷ rest)) t in
    let asks : two_questions (b ∷ rest) ≡ false = or-second (nat_eq a 63 && nat_eq b 63) (two_questions (b ∷ rest)) (not-true (two_questions (a ∷ b ∷ rest)) (and-both _ (not (two_questions (a ∷ b ∷ rest))) s).1) in
    let tail = behind-another 58 (32 ∷ b ∷ rest) refl (behind-another 32 (b ∷ rest) refl asks) in
    let tail_bytes : list_all is_text_byte (58 ∷ 32 ∷ b ∷ rest) ≡ true = bytes.1 in
    let first = bytes.0 in
    let others = runs-quotable name (58 ∷ 32 ∷ b ∷ rest) n tail_bytes in
    let all : list_all is_text_byte (seen_text name (a ∷ b ∷ rest)) ≡ true = rw (first, others) refl in
    plain-when (seen_text name (a ∷ b ∷ rest)) all (first-then-run a name (32 ∷ b ∷ rest) n tail)

-- In a package that keeps the rules of types.
module _ (p : NamedPackageTree) (kept : (refusal : Refusal) → Breaks p refusal → ⊥) where
  abbrev SiteIsRight : Site → Type 0
  SiteIsRight x = wrong_status x.around x.part ≡ None

  right-at : (i : ℕ) (x : Site) → slice_get (sites p) i ≡ Some x → SiteIsRight x
  right-at i x there = by_case (wrong_status x.around x.part) refl
    where
      by_case : (found : Option Place) → wrong_status x.around x.part ≡ found → SiteIsRight x
      by_case None e = e
      by_case (Some at) e = absurd (kept (refused T5 at) (record { judge = wrong_status; is_rule = rows.wrong_status; is_wrong = record { around = x.around; part = x.part; stands = (i, there); wrong = e } }))

  statuses-right : AllByRecursion (λ w. wrong_status (for_types p) (status_declared w) ≡ None) p.statuses
  unfolding sites
  statuses-right =
      let all = all-from SiteIsRight (sites p) right-at in
      let behind = all-behind SiteIsRight (const_sites [] p.consts) _ all in
      let own = all-front SiteIsRight (at_sites (for_types p) (map status_declared p.statuses)) _ behind in
      let parts = all-of-map SiteIsRight (λ (x : Part). record { around = for_types p; part = x }) (map status_declared p.statuses) own in
      all-of-map (λ (x : Part). wrong_status (for_types p) x ≡ None) status_declared p.statuses parts

  status-text : (w : Word) → wrong_status (for_types p) (status_declared w) ≡ None → is_status_text w.text ≡ true
  status-text w right = by_case (is_status_text w.text) refl
    where
      by_case : (b : Bool) → is_status_text w.text ≡ b → is_status_text w.text ≡ true
      by_case true e = e
      by_case false e = let none = rw e at right in absurd (cc none)

  seen-statuses : list_all is_run p.package_name ≡ true → (ws : List Word) → AllByRecursion (λ w. list_all is_text_byte w.text ≡ true) ws → AllByRecursion (λ w. wrong_status (for_types p) (status_declared w) ≡ None) ws
      → list_all is_plain_text (map (λ w. seen_text p.package_name w.text) ws) ≡ true
  seen-statuses n [] bytes right = refl
  seen-statuses n (w ∷ ws) bytes right =
      let first = seen-plain p.package_name w.text n bytes.0 (status-text w right.0) in
      let others = seen-statuses n ws bytes.1 right.1 in
      rw (first, others) refl

-- The bytes of statuses are those of the texts that are read.
quoted-statuses : (texts : List (List ℕ)) (decls : List DeclTree) → AllByRecursion (DeclIsGood (IsSpelt texts) (IsQuoted texts)) decls → AllByRecursion (λ n. IsQuoted texts n.text.0) (statuses_of decls)
quoted-statuses texts [] a = tt
quoted-statuses texts (parsed.status public text at ∷ decls) a = (a.0, quoted-statuses texts decls a.1)
quoted-statuses texts (parsed.constant public name of value at ∷ decls) a = quoted-statuses texts decls a.1
quoted-statuses texts (parsed.structure public name mark fields at ∷ decls) a = quoted-statuses texts decls a.1
quoted-statuses texts (parsed.method public owner name mark args result body at ∷ decls) a = quoted-statuses texts decls a.1

module _ (texts : List (List ℕ)) (decls : List DeclTree) where
  words-quotable : (ns : List Name) → AllByRecursion (λ n. IsQuoted texts n.text.0) ns → AllByRecursion (λ w. list_all is_text_byte w.text ≡ true) (map (word_of (text_of (declared texts decls))) ns)
  words-quotable [] a = tt
  words-quotable (n ∷ ns) a =
      let same : text_of (declared texts decls) n.text.0 ≡ a.0.text = ap bytes_in a.0.there in
      (ap (list_all is_text_byte) same ∙ a.0.plain, words-quotable ns a.1)

all-append : (xs ys : List (List ℕ)) → list_all is_plain_text xs ≡ true → list_all is_plain_text ys ≡ true → list_all is_plain_text (xs ++ ys) ≡ true
all-append [] ys a b = b
all-append (x ∷ xs) ys a b =
    let both = and-both (is_plain_text x) (list_all is_plain_text xs) a in
    let first = both.0 in
    let others = all-append xs ys both.1 b in
    rw (first, others) refl

plain-statuses : (name : List ℕ) (texts : List (List ℕ)) (decls : List DeclTree) (order struct_order : List ℕ) → AllByRecursion (DeclIsGood (IsSpelt texts) (IsQuoted texts)) decls → list_all is_run name ≡ true
    → ((refusal : Refusal) → Breaks (resolved_package name texts decls [] []) refusal → ⊥) → list_all is_plain_text (typed_package (resolved_package name texts decls order struct_order)).statuses ≡ true
unfolding typed_package
plain-statuses name texts decls order struct_order spelt n kept =
    let p = resolved_package name texts decls [] [] in
    let bytes = words-quotable texts decls (statuses_of decls) (quoted-statuses texts decls spelt) in
    all-append base_statuses (map (λ w. seen_text name w.text) p.statuses) refl (seen-statuses p kept n p.statuses bytes (statuses-right p kept))

pub read_statuses_are_plain : ReadStatusesArePlain
read_statuses_are_plain name files read is n kept order struct_order =
    let named : list_all is_run read.name ≡ true = ap (list_all is_run) is.named ∙ n in
    plain-statuses read.name read.texts (decls_of read) order struct_order (names-spelt name files read is) named kept
