-- A refusal stands in one of the package's files.
use Rattle.std.proofs.Common.{◌≡◌, ◌<◌, ◌+◌, ◌-◌, ℕ, Bool, true, false, if◌then◌else◌, nat_le, List, [], ◌∷◌, length, Option, None, Some, refl, sym, ap, ◌∙◌, arith}
use Rattle.std.proofs.lemmas.Bool.{leb-false}
use Rattle.std.specs.Option.{option_or}
use Rattle.wf_text.specs.declared.rules.Refusal.{Refusal}
use Rattle.wf_text.specs.declared.rules.Rule.TheVariants.{L1, L2}
use Rattle.wf_parse.proofs.RefusalPlaces.{refusals_have_files}
use Rattle.wf_read_laws.proofs.FilePlaces as naming
use Rattle.wf_read_laws.proofs.ReadPlaces as typing
use Rattle.wf_tokens.specs.Places.{first_place}
use Rattle.wf_tool.specs.Answer.{AreHeld}
use Rattle.wf_bounds_laws.proofs.RefusalFiles.{read_bounds_have_files, read_points_have_files}
use Rattle.wf_tool.specs.Sizes.{most_bytes, most_files, too_many, too_long, too_large}
use Rattle.wf_tool.specs.Verdict.{IsRefused, RefusalsHaveFiles, large, misread, misnamed, mistyped, out_of_bounds, has_too_many_points}
use Rattle.wf_tool.proofs.TakingLemmas.{AreHeld-length}

some-is : {A : Type 0} (a b : A) → Some a ≡ Some b → a ≡ b
some-is a b e = cc e

none-is : {A B : Type 0} (a : A) → None ≡ Some a → B
none-is a e = absurd (cc e)

-- Sizes.
many-file : (count : ℕ) (refusal : Refusal) → too_many count ≡ Some refusal → refusal.at.file < count
many-file count refusal e = by_case (nat_le count most_files) refl
  where
    by_case : (b : Bool) → nat_le count most_files ≡ b → refusal.at.file < count
    by_case true h = none-is refusal (sym (ap (λ (b : Bool). if b then None else Some (record { rule = L2; at = first_place most_files })) h) ∙ e)
    by_case false h =
        let is : record { rule = L2; at = first_place most_files } ≡ refusal = some-is _ refusal (sym (ap (λ (b : Bool). if b then None else Some (record { rule = L2; at = first_place most_files })) h) ∙ e) in
        let file : 16 ≡ refusal.at.file = ap (λ (r : Refusal). r.at.file) is in
        let more = leb-false count 16 h in
        omega (arith, file, more)

long-file : (number most : ℕ) (files : List (List ℕ)) (refusal : Refusal) → too_long number most files ≡ Some refusal → refusal.at.file < number + length files
long-file number most [] refusal e = none-is refusal e
long-file number most (bytes ∷ files) refusal e = by_case (nat_le (length bytes) most) refl (long-file (number + 1) (most - length bytes) files refusal)
  where
    by_case : (b : Bool) → nat_le (length bytes) most ≡ b → (too_long (number + 1) (most - length bytes) files ≡ Some refusal → refusal.at.file < number + 1 + length files) → refusal.at.file < number + length (bytes ∷ files)
    by_case true h behind =
        let rest : too_long (number + 1) (most - length bytes) files ≡ Some refusal = sym (ap (λ (b : Bool). if b then too_long (number + 1) (most - length bytes) files else Some (record { rule = L1; at = first_place number })) h) ∙ e in
        let below = behind rest in
        omega (arith, below)
    by_case false h behind =
        let is : record { rule = L1; at = first_place number } ≡ refusal = some-is _ refusal (sym (ap (λ (b : Bool). if b then too_long (number + 1) (most - length bytes) files else Some (record { rule = L1; at = first_place number })) h) ∙ e) in
        let file : number ≡ refusal.at.file = ap (λ (r : Refusal). r.at.file) is in
        omega (arith, file)

large-file : (files : List (List ℕ)) (refusal : Refusal) → too_large files ≡ Some refusal → refusal.at.file < length files
large-file files refusal e = by_case (too_many (length files)) refl
  where
    by_case : (found : Option Refusal) → too_many (length files) ≡ found → refusal.at.file < length files
    by_case None h =
        let below = long-file 0 most_bytes files refusal (sym (ap (λ (f : Option Refusal). option_or f (too_long 0 most_bytes files)) h) ∙ e) in
        omega (arith, below)
    by_case (Some r) h = many-file (length files) refusal (h ∙ (sym (ap (λ (f : Option Refusal). option_or f (too_long 0 most_bytes files)) h) ∙ e))

pub verdict-files : RefusalsHaveFiles
verdict-files name files refusal (large r) = large-file files refusal r
verdict-files name files refusal (misread r) = refusals_have_files files refusal r.misread
verdict-files name files refusal (misnamed r) = naming.packages_break_in_files name files r.read r.parsed refusal r.decides.breaks
verdict-files name files refusal (mistyped r) = typing.packages_break_in_files name files r.read r.parsed [] [] refusal r.decides.breaks
verdict-files name files refusal (out_of_bounds r) = read_bounds_have_files name files r.read r.parsed [] [] refusal r.first
verdict-files name files refusal (has_too_many_points r) = read_points_have_files name files r.read r.parsed [] [] refusal r.decides.breaks

-- It is one of the files that the words name.
pub held-file : (held : List ℕ → Option (List ℕ)) (name : List ℕ) (names files : List (List ℕ)) (refusal : Refusal) → AreHeld held names files → IsRefused name files refusal → refusal.at.file < length names
held-file held name names files refusal hold verdict =
    let below = verdict-files name files refusal verdict in
    let count = AreHeld-length held names files hold in
    omega (arith, below, count)
