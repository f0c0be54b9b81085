-- The passes over the arguments of a call find what the rules say.
use Rattle.std.proofs.Common.{◌≡◌, ◌⊎◌, ℕ, zero, suc, ◌<◌, true, false, not, ◌&&◌, List, [], ◌∷◌, map, Option, Some, None, slice_get, refl, sym, ap, ◌∙◌, subst, inl, inr, arith}
use Rattle.wf_text.specs.declared.rules.Rule.TheVariants.{N2, N6}
use Rattle.wf_text.specs.declared.rules.Refusal.{Refusal}
use Rattle.wf_ast.specs.declared.parsed.Name.{Name}
use Rattle.wf_ast.specs.declared.parsed.Path.{Path}
use Rattle.wf_ast.specs.declared.parsed.Root.{Root}
use Rattle.wf_ast.specs.declared.parsed.Root.TheVariants as roots
use Rattle.wf_ast.specs.ParsedTree as tree
use Rattle.wf_ast.specs.ParsedTree.{ExprTree}
use Rattle.wf_names_rules.specs.declared.sorts.Sort.{Sort}
use Rattle.graphs.specs.Graphs.{holds}
use Rattle.wf_names_rules.specs.Meanings.{GivenValue, Parameters, is_parameter, is_io_arg, passed_at, passed_arg}
use Rattle.wf_names_rules.specs.Judged.{arg_path_at, arg_path, passed_twice_by_value, passed_seen, passed_twice, unknown_argument, unknown_arguments}
use Rattle.wf_names_rules.proofs.InsertLemmas.{insert-keeps, insert-has, insert-only}
use Rattle.wf_names_uses.proofs.FoundLemmas.{Has, refused-cause, refused-so, not-cause, not-so, both, both-so}

-- An argument of the calling method that a value is.
path_text : Option Path → Option ℕ
path_text None = None
path_text (Some path) = Some path.name.text.0

root-passed : (root : Root) (path : Path) → passed_at root path.name.text.0 ≡ path_text (arg_path_at root path)
unfolding path_text
root-passed roots.Bare path = refl
root-passed roots.This path = refl
root-passed roots.Args path = refl

path-passed : (e : ExprTree) → passed_arg e ≡ path_text (arg_path e)
unfolding path_text
path-passed (tree.number value at) = refl
path-passed (tree.own_status text) = refl
path-passed (tree.base_status text at) = refl
path-passed (tree.fine at) = refl
path-passed (tree.truth value at) = refl
path-passed (tree.path path) = root-passed path.root path
path-passed (tree.index base place at) = refl
path-passed (tree.slice base from to at) = refl
path-passed (tree.answer c) = refl
path-passed (tree.chain op first links at) = refl
path-passed (tree.convert of to at) = refl
path-passed (tree.negation of at) = refl

root-cause : (root : Root) (path found : Path) → arg_path_at root path ≡ Some found → (root ≡ roots.Args) × (path ≡ found)
root-cause roots.Bare path found h = absurd (cc h)
root-cause roots.This path found h = absurd (cc h)
root-cause roots.Args path found h = (refl, (let same : path ≡ found = cc h in same))

path-cause : (e : ExprTree) (found : Path) → arg_path e ≡ Some found → (found.root ≡ roots.Args) × (e ≡ tree.path found)
path-cause (tree.number value at) found h = absurd (cc h)
path-cause (tree.own_status text) found h = absurd (cc h)
path-cause (tree.base_status text at) found h = absurd (cc h)
path-cause (tree.fine at) found h = absurd (cc h)
path-cause (tree.truth value at) found h = absurd (cc h)
path-cause (tree.path path) found h =
    let r = root-cause path.root path found h in
    (ap (λ (p : Path). p.root) (sym r.1) ∙ r.0, ap (λ p. tree.path p) r.1)
path-cause (tree.index base place at) found h = absurd (cc h)
path-cause (tree.slice base from to at) found h = absurd (cc h)
path-cause (tree.answer c) found h = absurd (cc h)
path-cause (tree.chain op first links at) found h = absurd (cc h)
path-cause (tree.convert of to at) found h = absurd (cc h)
path-cause (tree.negation of at) found h = absurd (cc h)

path-so : (e : ExprTree) (path : Path) → path.root ≡ roots.Args → e ≡ tree.path path → arg_path e ≡ Some path
path-so e path root is = ap arg_path is ∙ ap (λ r. arg_path_at r path) root

-- Readers and writers passed twice.
keeps-seen : (seen : List ℕ) (o : Option Path) (t : ℕ) → holds seen t ≡ true → holds (passed_seen seen o) t ≡ true
keeps-seen seen None t h = h
keeps-seen seen (Some path) t h = insert-keeps seen path.name.text.0 t h

has-seen : (seen : List ℕ) (o : Option Path) (t : ℕ) → path_text o ≡ Some t → holds (passed_seen seen o) t ≡ true
unfolding path_text
has-seen seen None t h = absurd (cc h)
has-seen seen (Some path) t h =
    let same : path.name.text.0 ≡ t = cc h in
    let P : ℕ → Type 0 = λ x. holds (passed_seen seen (Some path)) x ≡ true in subst P same (insert-has seen path.name.text.0)

only-seen : (seen : List ℕ) (o : Option Path) (t : ℕ) → holds (passed_seen seen o) t ≡ true → (holds seen t ≡ true) ⊎ (path_text o ≡ Some t)
unfolding path_text
only-seen seen None t h = inl h
only-seen seen (Some path) t h = elim (insert-only seen path.name.text.0 t h) [ inl k ↦ inl k | inr e ↦ inr (ap (λ x. Some x) (sym e)) ]

passed-again : (arg : ℕ → Option Sort) (seen : List ℕ) (values : List GivenValue) (j : ℕ) (later : GivenValue) (path : Path)
    → slice_get values j ≡ Some later → arg_path later.value ≡ Some path → is_io_arg arg path.name.text.0 ≡ true → holds seen path.name.text.0 ≡ true
    → Has (record { rule = N2; at = path.at }) (passed_twice arg seen values)
passed-again arg seen [] j later path e is io h = absurd (cc e)
passed-again arg seen (g ∷ gs) zero later path e is io h =
    let same : g ≡ later = cc e in
    let value : arg_path g.value ≡ Some path = ap (λ (x : GivenValue). arg_path x.value) same ∙ is in
    inl (ap (passed_twice_by_value arg seen) value ∙ refused-so (is_io_arg arg path.name.text.0 && holds seen path.name.text.0) N2 path.at (both-so (is_io_arg arg path.name.text.0) (holds seen path.name.text.0) io h))
passed-again arg seen (g ∷ gs) (suc j) later path e is io h =
    inr (passed-again arg (passed_seen seen (arg_path g.value)) gs j later path e is io (keeps-seen seen (arg_path g.value) path.name.text.0 h))

pub passed-complete : (arg : ℕ → Option Sort) (seen : List ℕ) (values : List GivenValue) (i j : ℕ) (earlier later : GivenValue) (path : Path)
    → i < j → slice_get values i ≡ Some earlier → slice_get values j ≡ Some later → path.root ≡ roots.Args → later.value ≡ tree.path path
    → passed_arg earlier.value ≡ Some path.name.text.0 → is_io_arg arg path.name.text.0 ≡ true → Has (record { rule = N2; at = path.at }) (passed_twice arg seen values)
passed-complete arg seen [] i j earlier later path below e f root is same io = absurd (cc e)
passed-complete arg seen (g ∷ gs) i zero earlier later path below e f root is same io = absurd (omega (arith, below))
passed-complete arg seen (g ∷ gs) zero (suc j) earlier later path below e f root is same io =
    let first : g ≡ earlier = cc e in
    let text : path_text (arg_path g.value) ≡ Some path.name.text.0 = sym (path-passed g.value) ∙ ap (λ (x : GivenValue). passed_arg x.value) first ∙ same in
    inr (passed-again arg (passed_seen seen (arg_path g.value)) gs j later path f (path-so later.value path root is) io (has-seen seen (arg_path g.value) path.name.text.0 text))
passed-complete arg seen (g ∷ gs) (suc i) (suc j) earlier later path below e f root is same io =
    inr (passed-complete arg (passed_seen seen (arg_path g.value)) gs i j earlier later path (omega (arith, below)) e f root is same io)

-- An earlier value that is the same argument.
pub record Earlier (values : List GivenValue) (j text : ℕ) : Type 0 where
  pub i : ℕ
  pub earlier : GivenValue
  pub below : i < j
  pub is : slice_get values i ≡ Some earlier
  pub same : passed_arg earlier.value ≡ Some text

pub record PassedCause (arg : ℕ → Option Sort) (seen : List ℕ) (values : List GivenValue) (s : Refusal) : Type 0 where
  pub j : ℕ
  pub later : GivenValue
  pub path : Path
  pub is : slice_get values j ≡ Some later
  pub root : path.root ≡ roots.Args
  pub value : later.value ≡ tree.path path
  pub io : is_io_arg arg path.name.text.0 ≡ true
  pub refused : s ≡ record { rule = N2; at = path.at }
  pub before : (holds seen path.name.text.0 ≡ true) ⊎ Earlier values j path.name.text.0

pub passed-sound : (arg : ℕ → Option Sort) (seen : List ℕ) (values : List GivenValue) (s : Refusal) → Has s (passed_twice arg seen values) → PassedCause arg seen values s
passed-sound arg seen [] s h = absurd h
passed-sound arg seen (g ∷ gs) s (inl e) = by_item (arg_path g.value) refl e
  where
    by_item : (o : Option Path) → arg_path g.value ≡ o → passed_twice_by_value arg seen o ≡ Some s → PassedCause arg seen (g ∷ gs) s
    by_item None is k = absurd (cc k)
    by_item (Some path) is k =
        let r = refused-cause (is_io_arg arg path.name.text.0 && holds seen path.name.text.0) N2 path.at s k in
        let b = both (is_io_arg arg path.name.text.0) (holds seen path.name.text.0) r.0 in
        let p = path-cause g.value path is in
        record { j = 0; later = g; path = path; is = refl; root = p.0; value = p.1; io = b.0; refused = r.1; before = inl b.1 }
passed-sound arg seen (g ∷ gs) s (inr h) =
    let r = passed-sound arg (passed_seen seen (arg_path g.value)) gs s h in
    record { j = suc r.j; later = r.later; path = r.path; is = r.is; root = r.root; value = r.value; io = r.io; refused = r.refused; before = before_in r.j r.path.name.text.0 r.before }
  where
    before_in : (j text : ℕ) → (holds (passed_seen seen (arg_path g.value)) text ≡ true) ⊎ Earlier gs j text → (holds seen text ≡ true) ⊎ Earlier (g ∷ gs) (suc j) text
    before_in j text (inl k) = elim (only-seen seen (arg_path g.value) text k) [
      | inl p ↦ inl p
      | inr t ↦ inr (record { i = 0; earlier = g; below = omega arith; is = refl; same = path-passed g.value ∙ t })
    ]
    before_in j text (inr q) = inr (record { i = suc q.i; earlier = q.earlier; below = omega (arith, q.below); is = q.is; same = q.same })

-- Arguments that the method doesn't have.
abbrev pub named : List GivenValue → List Name
named values = map (λ (g : GivenValue). g.name) values

pub unknown-complete : (bytes : ℕ → List ℕ) (parameters : Parameters) (values : List GivenValue) (i : ℕ) (given : GivenValue)
    → slice_get values i ≡ Some given → is_parameter bytes parameters given.name.text.0 ≡ false → Has (record { rule = N6; at = given.name.at }) (unknown_arguments bytes parameters (named values))
unknown-complete bytes parameters [] i given e h = absurd (cc e)
unknown-complete bytes parameters (g ∷ gs) zero given e h =
    let same : g ≡ given = cc e in
    inl (ap (λ (x : GivenValue). unknown_argument bytes parameters x.name) same ∙ refused-so (not (is_parameter bytes parameters given.name.text.0)) N6 given.name.at (not-so (is_parameter bytes parameters given.name.text.0) h))
unknown-complete bytes parameters (g ∷ gs) (suc i) given e h = inr (unknown-complete bytes parameters gs i given e h)

pub record UnknownCause (bytes : ℕ → List ℕ) (parameters : Parameters) (values : List GivenValue) (s : Refusal) : Type 0 where
  pub i : ℕ
  pub given : GivenValue
  pub is : slice_get values i ≡ Some given
  pub unknown : is_parameter bytes parameters given.name.text.0 ≡ false
  pub refused : s ≡ record { rule = N6; at = given.name.at }

pub unknown-sound : (bytes : ℕ → List ℕ) (parameters : Parameters) (values : List GivenValue) (s : Refusal)
    → Has s (unknown_arguments bytes parameters (named values)) → UnknownCause bytes parameters values s
unknown-sound bytes parameters [] s h = absurd h
unknown-sound bytes parameters (g ∷ gs) s (inl e) =
    let r = refused-cause (not (is_parameter bytes parameters g.name.text.0)) N6 g.name.at s e in
    record { i = 0; given = g; is = refl; unknown = not-cause (is_parameter bytes parameters g.name.text.0) r.0; refused = r.1 }
unknown-sound bytes parameters (g ∷ gs) s (inr h) =
    let r = unknown-sound bytes parameters gs s h in
    record { i = suc r.i; given = r.given; is = r.is; unknown = r.unknown; refused = r.refused }

-- The texts of the names that are given.
pub texts-same : (values : List GivenValue) → map (λ (n : Name). n.text.0) (named values) ≡ map (λ (g : GivenValue). g.name.text.0) values
texts-same [] = refl
texts-same (g ∷ gs) = ap (λ ts. g.name.text.0 ∷ ts) (texts-same gs)
