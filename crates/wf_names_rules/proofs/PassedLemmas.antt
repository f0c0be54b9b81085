-- Readers and writers that are passed twice are found where of the arguments that were passed before only these are kept.
use Rattle.std.proofs.Common.{◌≡◌, ℕ, Bool, true, false, ◌&&◌, List, [], ◌∷◌, Option, Some, None, nat_eq, refl, sym, ap, ◌∙◌, subst, inl, inr}
use Rattle.indexmap.specs.IndexSet.{insert_key}
use Rattle.wf_text.specs.declared.rules.Rule.TheVariants.{N2}
use Rattle.wf_ast.specs.declared.parsed.Path.{Path}
use Rattle.graphs.specs.Graphs.{holds}
use Rattle.wf_names_rules.specs.declared.sorts.Sort.{Sort}
use Rattle.wf_names_rules.specs.Passes.{refused_if}
use Rattle.wf_names_rules.specs.Meanings.{GivenValue, is_io_arg}
use Rattle.wf_names_rules.specs.Judged.{arg_path, passed_twice_by_value, passed_seen, passed_twice, io_seen_if, io_seen, io_passed_twice}
use Rattle.wf_names_rules.proofs.InsertLemmas.{insert-keeps, insert-has, insert-only}

-- Two lists of texts have the same readers and writers.
abbrev Agree : (ℕ → Option Sort) → List ℕ → List ℕ → Type 0
Agree arg kept seen = (text : ℕ) → is_io_arg arg text ≡ true → holds kept text ≡ holds seen text

iff_same : (x y : Bool) → (x ≡ true → y ≡ true) → (y ≡ true → x ≡ true) → x ≡ y
iff_same true y to from = sym (to refl)
iff_same false true to from = from refl
iff_same false false to from = refl

inserted_both : (kept seen : List ℕ) (text other : ℕ) → holds kept other ≡ holds seen other → holds (insert_key nat_eq kept text) other ≡ true → holds (insert_key nat_eq seen text) other ≡ true
inserted_both kept seen text other same h = elim (insert-only kept text other h) [
  | inl k ↦ insert-keeps seen text other (sym same ∙ k)
  | inr e ↦ (let P : ℕ → Type 0 = λ x. holds (insert_key nat_eq seen text) x ≡ true in subst P (sym e) (insert-has seen text))
]

agree_both : (arg : ℕ → Option Sort) (kept seen : List ℕ) (text : ℕ) → Agree arg kept seen → Agree arg (insert_key nat_eq kept text) (insert_key nat_eq seen text)
agree_both arg kept seen text agree other io =
    iff_same (holds (insert_key nat_eq kept text) other) (holds (insert_key nat_eq seen text) other)
    (inserted_both kept seen text other (agree other io)) (inserted_both seen kept text other (sym (agree other io)))

agree_other : (arg : ℕ → Option Sort) (kept seen : List ℕ) (text : ℕ) → is_io_arg arg text ≡ false → Agree arg kept seen → Agree arg kept (insert_key nat_eq seen text)
agree_other arg kept seen text plain agree other io = agree other io ∙ iff_same (holds seen other) (holds (insert_key nat_eq seen text) other) (insert-keeps seen text other) back
  where
    both : (x : Bool) → x ≡ true → x ≡ false → ⊥
    both true h k = absurd (cc k)
    both false h k = absurd (cc h)

    back : holds (insert_key nat_eq seen text) other ≡ true → holds seen other ≡ true
    back h = elim (insert-only seen text other h) [
      | inl k ↦ k
      | inr e ↦ absurd (both (is_io_arg arg other) io (ap (is_io_arg arg) e ∙ plain))
    ]

agree_path : (arg : ℕ → Option Sort) (kept seen : List ℕ) (path : Option Path) → Agree arg kept seen → Agree arg (io_seen arg kept path) (passed_seen seen path)
agree_path arg kept seen None agree = agree
agree_path arg kept seen (Some path) agree = by (is_io_arg arg path.name.text.0) refl
  where
    by : (b : Bool) → is_io_arg arg path.name.text.0 ≡ b → Agree arg (io_seen_if b kept path.name.text.0) (insert_key nat_eq seen path.name.text.0)
    by true e = agree_both arg kept seen path.name.text.0 agree
    by false e = agree_other arg kept seen path.name.text.0 e agree

same_refusal : (arg : ℕ → Option Sort) (kept seen : List ℕ) (path : Option Path) → Agree arg kept seen → passed_twice_by_value arg kept path ≡ passed_twice_by_value arg seen path
same_refusal arg kept seen None agree = refl
same_refusal arg kept seen (Some path) agree = by (is_io_arg arg path.name.text.0) refl
  where
    by : (b : Bool) → is_io_arg arg path.name.text.0 ≡ b → refused_if (b && holds kept path.name.text.0) N2 path.at ≡ refused_if (b && holds seen path.name.text.0) N2 path.at
    by true e = ap (λ t. refused_if t N2 path.at) (agree path.name.text.0 e)
    by false e = refl

kept_same : (arg : ℕ → Option Sort) (kept seen : List ℕ) (values : List GivenValue) → Agree arg kept seen → io_passed_twice arg kept values ≡ passed_twice arg seen values
kept_same arg kept seen [] agree = refl
kept_same arg kept seen (g ∷ gs) agree =
    ap (λ x. x ∷ io_passed_twice arg (io_seen arg kept (arg_path g.value)) gs) (same_refusal arg kept seen (arg_path g.value) agree)
    ∙ ap (λ xs. passed_twice_by_value arg seen (arg_path g.value) ∷ xs)
    (kept_same arg (io_seen arg kept (arg_path g.value)) (passed_seen seen (arg_path g.value)) gs (agree_path arg kept seen (arg_path g.value) agree))

pub io-passed-same : (arg : ℕ → Option Sort) (values : List GivenValue) → io_passed_twice arg [] values ≡ passed_twice arg [] values
io-passed-same arg values = kept_same arg [] [] values (λ text io. refl)
