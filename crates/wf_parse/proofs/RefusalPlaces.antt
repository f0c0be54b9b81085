-- The places of a file's tokens name that file, and so does a refusal of it.
use Rattle.std.proofs.Common.{◌≡◌, ◌<◌, ◌+◌, ◌-◌, ◌⊎◌, inl, inr, ℕ, zero, suc, Bool, true, false, nat_eq, if◌then◌else◌, Option, None, Some, List, [], ◌∷◌, ◌++◌, length, refl, sym, ◌∙◌, ap, subst, arith}
use Rattle.std.specs.List.{AllByRecursion, slice_get}
use Rattle.std.specs.Option.{option_map_or}
use Rattle.wf_text.specs.declared.place.Place.{Place}
use Rattle.wf_text.specs.declared.rules.Refusal.{Refusal}
use Rattle.wf_text.specs.declared.rules.Rule.{Rule}
use Rattle.wf_parse_grammar.specs.declared.tokens.Kind.TheVariants as kinds
use Rattle.wf_parse_grammar.specs.declared.tokens.Token.{Token}
use Rattle.wf_tokens.specs.Places.{behind_byte, behind_bytes, first_place}
use Rattle.wf_tokens.specs.Spelling.{State, Item, Reads, ReadsPiece, MakesSemicolon, ReadsAll, start}
use Rattle.wf_parse.specs.Lexing.{TokensAre, IsWholeFile, IsFileUpTo, AreTokensOf}
use Rattle.wf_parse.specs.OneReading.{RefusalsHaveFiles}
use Rattle.wf_parse.specs.Parsing.{RefusesFile, RefusesFiles, place_left, refusal_of}

-- Bytes don't change the file.
behind_byte-file : (at : Place) (byte : ℕ) → (behind_byte at byte).file ≡ at.file
behind_byte-file at byte = by_case (nat_eq byte 10)
  where
    by_case : (b : Bool) → (let p : Place = if b then record { file = at.file; line = at.line + 1; col = 1 } else record { file = at.file; line = at.line; col = at.col + 1 } in p.file) ≡ at.file
    by_case true = refl
    by_case false = refl

behind_bytes-file : (at : Place) (bytes : List ℕ) → (behind_bytes at bytes).file ≡ at.file
behind_bytes-file at [] = refl
behind_bytes-file at (byte ∷ rest) = behind_bytes-file (behind_byte at byte) rest ∙ behind_byte-file at byte

-- A token stands in the file that is read, and reading stays there.
reads-file : (old : State) (item : Item) (new : State) → Reads old item new → (item.at.file ≡ old.at.file) × (new.at.file ≡ old.at.file)
reads-file old item new r = by_case r.1
  where
    by_case : ReadsPiece old item new ⊎ MakesSemicolon old item new → (item.at.file ≡ old.at.file) × (new.at.file ≡ old.at.file)
    by_case (inl p) =
        let here : item.at.file ≡ old.at.file = ap (λ (at : Place). at.file) p.at ∙ behind_bytes-file old.at p.gap in
        (here, ap (λ (s : State). s.at.file) p.after ∙ behind_bytes-file item.at item.text ∙ here)
    by_case (inr p) = (ap (λ (i : Item). i.at.file) p.made, ap (λ (s : State). s.at.file) p.after ∙ behind_bytes-file old.at p.gap)

abbrev pub InFile : ℕ → List Token → Type 0
InFile file tokens = AllByRecursion (λ t. t.at.file ≡ file) tokens

read-file : (file : ℕ) (texts : List (List ℕ)) (old : State) (items : List Item) (new : State) (tokens : List Token) → old.at.file ≡ file → ReadsAll old items new → TokensAre texts items tokens → InFile file tokens × (new.at.file ≡ file)
read-file file texts old [] new [] e r a = (tt, ap (λ (s : State). s.at.file) (sym r) ∙ e)
read-file file texts old [] new (t ∷ ts) e r a = absurd a
read-file file texts old (item ∷ items) new [] e r a = absurd a
read-file file texts old (item ∷ items) new (t ∷ ts) e r a =
    let one = reads-file old item r.0 r.1 in
    let rest = read-file file texts r.0 items new ts (one.1 ∙ e) r.2 a.1 in
    ((ap (λ (at : Place). at.file) a.0.at ∙ one.0 ∙ e, rest.0), rest.1)

pub whole-file : (file : ℕ) (bytes : List ℕ) (known texts : List (List ℕ)) (tokens : List Token) → IsWholeFile file bytes known texts tokens → InFile file tokens
whole-file file bytes known texts tokens w = (read-file file texts (start file bytes) w.items w.spelt.last tokens refl w.spelt.reads w.tokens_are).0

one-more : (file : ℕ) (front : List Token) (t : Token) → InFile file front → t.at.file ≡ file → InFile file (front ++ t ∷ [])
one-more file [] t a e = (e, tt)
one-more file (u ∷ front) t a e = (a.0, one-more file front t a.1 e)

up-to-file : (file : ℕ) (bytes : List ℕ) (known texts : List (List ℕ)) (tokens : List Token) (refusal : Refusal) → IsFileUpTo file bytes known texts tokens refusal → InFile file tokens × (refusal.at.file ≡ file)
up-to-file file bytes known texts tokens refusal w =
    let read = read-file file texts (start file bytes) w.items w.spelt.last w.front refl w.spelt.reads w.tokens_are in
    let stuck = w.spelt.stuck in
    let here : refusal.at.file ≡ file = ap (λ (r : Refusal). r.at.file) stuck.refused ∙ behind_bytes-file w.spelt.last.at stuck.gap ∙ read.1 in
    let bad : Token = record { kind = kinds.Bad; at = refusal.at } in
    let P : List Token → Type 0 = InFile file in
    (subst P (sym w.whole) (one-more file w.front bad read.0 here), here)

-- A refusal of a file.
found-file : (file : ℕ) (tokens : List Token) (i : ℕ) (end : Place) → InFile file tokens → end.file ≡ file → (option_map_or (λ t. t.at) (slice_get tokens i) end).file ≡ file
found-file file [] i end a e = e
found-file file (t ∷ ts) zero end a e = a.0
found-file file (t ∷ ts) (suc i) end a e = found-file file ts i end a.1 e

left-file : (file : ℕ) (tokens : List Token) (left : ℕ) (end : Place) → InFile file tokens → end.file ≡ file → (place_left end tokens left).file ≡ file
left-file file tokens left end a e = by_case (nat_eq left 0)
  where
    by_case : (b : Bool) → (let p : Place = if b then end else option_map_or (λ t. t.at) (slice_get tokens (length tokens - left)) end in p.file) ≡ file
    by_case true = e
    by_case false = found-file file tokens (length tokens - left) end a e

refusal-file : (file : ℕ) (bytes : List ℕ) (known texts : List (List ℕ)) (tokens : List Token) (bytes_refused : Option Refusal) (rule : Rule) (left : ℕ) (end : Place) → end.file ≡ file
    → AreTokensOf file bytes known texts tokens bytes_refused → (refusal_of end tokens bytes_refused rule left).at.file ≡ file
refusal-file file bytes known texts tokens None rule left end e are = left-file file tokens left end (whole-file file bytes known texts tokens are) e
refusal-file file bytes known texts tokens (Some refusal) rule left end e are = by_case (nat_eq left 1)
  where
    by_case : (b : Bool) → (let r : Refusal = if b then refusal else record { rule = rule; at = place_left end tokens left } in r.at.file) ≡ file
    by_case true = (up-to-file file bytes known texts tokens refusal are).1
    by_case false = left-file file tokens left end (up-to-file file bytes known texts tokens refusal are).0 e

refused-file : (number most : ℕ) (known : List (List ℕ)) (bytes : List ℕ) (refusal : Refusal) → RefusesFile number most known bytes refusal → refusal.at.file ≡ number
refused-file number most known bytes refusal r =
    let end = behind_bytes (first_place number) bytes in
    ap (λ (x : Refusal). x.at.file) r.is ∙ refusal-file number bytes known r.texts r.tokens r.bytes_refused r.rule r.left end (behind_bytes-file (first_place number) bytes) r.tokens_are

refused-files : (number most : ℕ) (known : List (List ℕ)) (files : List (List ℕ)) (refusal : Refusal) → RefusesFiles number most known files refusal → refusal.at.file < number + length files
refused-files number most known [] refusal r = absurd r
refused-files number most known (bytes ∷ files) refusal (inl r) =
    let here = refused-file number most known bytes refusal r in
    omega (arith, here)
refused-files number most known (bytes ∷ files) refusal (inr r) =
    let there = refused-files (number + 1) (most - length r.1) r.0 files refusal r.4 in
    omega (arith, there)

pub refusals_have_files : RefusalsHaveFiles
refusals_have_files files refusal r = let below = refused-files 0 262144 [] files refusal r in omega (arith, below)
