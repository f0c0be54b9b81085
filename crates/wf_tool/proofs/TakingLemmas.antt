-- What has been taken, file by file.
use Rattle.std.proofs.Common.{◌≡◌, ◌≤◌, ◌<◌, ◌+◌, ◌-◌, ℕ, zero, suc, Bool, if◌then◌else◌, map, List, [], ◌∷◌, ◌++◌, length, drop, Option, None, Some, IfSome, refl, sym, ap, ◌∙◌, subst, arith, true, false, append_assoc, append-nil, nat_le}
use Rattle.std.proofs.lemmas.List.{length-map, map-append}
use Rattle.std.proofs.lemmas.List.Sums.{sum_by-cons}
use Rattle.std.specs.List.{sum_by}
use Rattle.std.specs.Option.{option_or}
use Rattle.wf_text.specs.declared.rules.Refusal.{Refusal}
use Rattle.wf_text.specs.declared.rules.Rule.TheVariants.{L1}
use Rattle.wf_tokens.specs.Places.{first_place}
use Rattle.wf_tool.specs.declared.taking.TakingFault.{TakingFault}
use Rattle.wf_tool.specs.declared.taking.TakingFault.TheVariants.{Refused, Failed, Memory}
use Rattle.wf_tool.specs.Answer.{AreHeld, FailsAt, file_name, text_or}
use Rattle.wf_tool.specs.Sizes.{too_large, too_long, too_many, most_bytes}
use Rattle.wf_tool.specs.Taken.{AreTooLarge, StopsFile, StopsFiles, StopsPackage, TakesFile, TakesFiles, TakesPackage}

-- what names hold, and nothing where it isn't told
abbrev pub told_files : (held : List ℕ → Option (List ℕ)) → List (List ℕ) → List (List ℕ)
told_files held [] = []
told_files held (name ∷ names) = text_or (held name) ∷ told_files held names

told-is : (told : Option (List ℕ)) → IfSome told (λ bytes. text_or told ≡ bytes)
told-is None = tt
told-is (Some bytes) = refl

pub told-hold : (held : List ℕ → Option (List ℕ)) (names : List (List ℕ)) → AreHeld held names (told_files held names)
told-hold held [] = tt
told-hold held (name ∷ names) = (told-is (held name), told-hold held names)

pub AreHeld-length : (held : List ℕ → Option (List ℕ)) (names files : List (List ℕ)) → AreHeld held names files → length names ≡ length files
AreHeld-length held [] [] h = refl
AreHeld-length held [] (file ∷ files) h = absurd h
AreHeld-length held (name ∷ names) [] h = absurd h
AreHeld-length held (name ∷ names) (file ∷ files) h = ap suc (AreHeld-length held names files h.1)

-- these files were taken, before the one with this number, and so many bytes are left
pub record HasTaken (held : List ℕ → Option (List ℕ)) (most : ℕ) (names : List (List ℕ)) (number left : ℕ) (files : List (List ℕ)) : Type 0 where
  pub hold : (rest : List (List ℕ)) → AreHeld held (drop number names) rest → AreHeld held names (files ++ rest)
  pub sizes : (rest : List (List ℕ)) → too_long 0 most (files ++ rest) ≡ too_long number left rest
  pub fails : (index : ℕ) → FailsAt held left (drop number names) [] index → FailsAt held most names [] (number + index)

too_long-within : (number most : ℕ) (bytes : List ℕ) (rest : List (List ℕ)) → length bytes ≤ most → too_long number most (bytes ∷ rest) ≡ too_long (number + 1) (most - length bytes) rest
too_long-within number most bytes rest within =
    let is : nat_le (length bytes) most ≡ true = grind (arith, within) in
    rw is refl

too_long-beyond : (number most : ℕ) (bytes : List ℕ) (rest : List (List ℕ)) (refusal : Refusal) → most < length bytes → refusal ≡ record { rule = L1; at = first_place number } → too_long number most (bytes ∷ rest) ≡ Some refusal
too_long-beyond number most bytes rest refusal more refused =
    let is : nat_le (length bytes) most ≡ false = grind (arith, more) in
    rw is (ap Some (sym refused))

pub HasTaken-next : (held : List ℕ → Option (List ℕ)) (most : ℕ) (names : List (List ℕ)) (number left : ℕ) (files : List (List ℕ)) (name bytes : List ℕ)
    → HasTaken held most names number left files → drop number names ≡ name ∷ drop (number + 1) names → TakesFile held left name bytes
    → HasTaken held most names (number + 1) (left - length bytes) (files ++ bytes ∷ [])
HasTaken-next held most names number left files name bytes had is takes =
    let H : List (List ℕ) → List (List ℕ) → Type 0 = λ rest ns. AreHeld held ns (bytes ∷ rest) in
    let G : List (List ℕ) → Type 0 = AreHeld held names in
    let F : ℕ → List (List ℕ) → Type 0 = λ index ns. FailsAt held left ns [] (suc index) in
    let N : ℕ → Type 0 = FailsAt held most names [] in
    record {
      hold = λ rest h. subst G (sym (append_assoc files (bytes ∷ []) rest)) (had.hold (bytes ∷ rest) (subst (H rest) (sym is) (takes.0, h)));
      sizes = λ rest. ap (too_long 0 most) (append_assoc files (bytes ∷ []) rest) ∙ had.sizes (bytes ∷ rest) ∙ too_long-within number left bytes rest takes.1;
      fails = λ index h.
          let spot : number + suc index ≡ number + 1 + index = omega arith in
          subst N spot (had.fails (suc index) (subst (F index) (sym is) (bytes, takes.0, takes.1, h)));
    }

name-at : {X : Type 0} (f : X → List ℕ) (xs : List X) (n : ℕ) (name : List ℕ) → n < length xs → name ≡ file_name (map f xs) n → drop n (map f xs) ≡ name ∷ drop (n + 1) (map f xs)
name-at f [] n name within is = absurd (omega (arith, within))
name-at f (x ∷ xs) zero name within is = ap (λ first. first ∷ map f xs) (sym is)
name-at f (x ∷ xs) (suc n) name within is =
    let D : ℕ → Type 0 = λ k. drop n (map f xs) ≡ name ∷ drop k (f x ∷ map f xs) in
    let spot : suc (n + 1) ≡ suc n + 1 = omega arith in
    subst D spot (name-at f xs n name (omega (arith, within)) is)

drop-end : (names : List (List ℕ)) (n : ℕ) → length names ≤ n → drop n names ≡ []
drop-end [] zero past = refl
drop-end [] (suc n) past = refl
drop-end (first ∷ names) zero past = absurd (omega (arith, past))
drop-end (first ∷ names) (suc n) past = drop-end names n (omega (arith, past))

-- the file at this number ends the taking
pub stops-at : (held : List ℕ → Option (List ℕ)) (most : ℕ) (names : List (List ℕ)) (number left : ℕ) (files : List (List ℕ)) (name : List ℕ) (fault : TakingFault)
    → HasTaken held most names number left files → drop number names ≡ name ∷ drop (number + 1) names → StopsFile held left number name fault
    → StopsFiles held most 0 names fault
stops-at held most names number left files name (Refused refusal) had is (bytes, told, more, refused) =
    let behind = told_files held (drop (number + 1) names) in
    let H : List (List ℕ) → Type 0 = λ ns. AreHeld held ns (bytes ∷ behind) in
    (files ++ bytes ∷ behind, had.hold (bytes ∷ behind) (subst H (sym is) (told, told-hold held (drop (number + 1) names))), had.sizes (bytes ∷ behind) ∙ too_long-beyond number left bytes behind refusal more refused)
stops-at held most names number left files name (Failed at) had is same =
    let F : List (List ℕ) → Type 0 = λ ns. FailsAt held left ns [] 0 in
    (number + 0, same ∙ omega arith, had.fails 0 (subst F (sym is) tt))
stops-at held most names number left files name Memory had is stops = tt

-- all were taken
pub takes-all : (held : List ℕ → Option (List ℕ)) (most : ℕ) (names : List (List ℕ)) (number left : ℕ) (files : List (List ℕ))
    → HasTaken held most names number left files → drop number names ≡ [] → TakesFiles held most names files
takes-all held most names number left files had is =
    let H : List (List ℕ) → Type 0 = λ ns. AreHeld held ns [] in
    let G : List (List ℕ) → Type 0 = AreHeld held names in
    (subst G (append-nil files) (had.hold [] (subst H (sym is) tt)), ap (too_long 0 most) (sym (append-nil files)) ∙ had.sizes [])

-- files that aren't too large are few, with few bytes
none-of-test : (b : Bool) (n most : ℕ) (other : Option Refusal) (refusal : Refusal) → nat_le n most ≡ b → (if b then other else Some refusal) ≡ None → (n ≤ most) × (other ≡ None)
none-of-test true n most other refusal is none = (grind (arith, is), none)
none-of-test false n most other refusal is none = absurd (cc none)

pub short-first : (number most : ℕ) (bytes : List ℕ) (rest : List (List ℕ)) → too_long number most (bytes ∷ rest) ≡ None → (length bytes ≤ most) × (too_long (number + 1) (most - length bytes) rest ≡ None)
short-first number most bytes rest none = none-of-test (nat_le (length bytes) most) (length bytes) most (too_long (number + 1) (most - length bytes) rest) (record { rule = L1; at = first_place number }) refl none

pub few-bytes : {X : Type 0} (f : X → List ℕ) (xs : List X) (number most : ℕ) → too_long number most (map f xs) ≡ None → sum_by (λ x. length (f x)) xs ≤ most
few-bytes f [] number most none = omega arith
few-bytes f (x ∷ xs) number most none =
    let both = none-of-test (nat_le (length (f x)) most) (length (f x)) most (too_long (number + 1) (most - length (f x)) (map f xs)) (record { rule = L1; at = first_place number }) refl none in
    let more = few-bytes f xs (number + 1) (most - length (f x)) both.1 in
    rw (sum_by-cons (λ y. length (f y)) x xs) (omega (arith, both.0, more))

or-none : (a b : Option Refusal) → option_or a b ≡ None → (a ≡ None) × (b ≡ None)
or-none None b none = (refl, none)
or-none (Some refusal) b none = absurd (cc none)

pub sized-both : (files : List (List ℕ)) → too_large files ≡ None → (too_many (length files) ≡ None) × (too_long 0 most_bytes files ≡ None)
sized-both files none = or-none (too_many (length files)) (too_long 0 most_bytes files) none

pub sized-bytes : {X : Type 0} (f : X → List ℕ) (xs : List X) → too_large (map f xs) ≡ None → sum_by (λ x. length (f x)) xs ≤ 1048576
sized-bytes f xs none = few-bytes f xs 0 most_bytes (or-none (too_many (length (map f xs))) (too_long 0 most_bytes (map f xs)) none).1

-- as many files as names
same-count : (held : List ℕ → Option (List ℕ)) (names files : List (List ℕ)) (found : Option Refusal) → AreHeld held names files → too_many (length names) ≡ found → too_many (length files) ≡ found
same-count held names files found hold is = let T : ℕ → Type 0 = λ n. too_many n ≡ found in subst T (AreHeld-length held names files hold) is

pub sized-taken : (held : List ℕ → Option (List ℕ)) (names files : List (List ℕ)) → too_many (length names) ≡ None → TakesFiles held most_bytes names files → too_large files ≡ None
sized-taken held names files few takes =
    ap (λ f. option_or f (too_long 0 most_bytes files)) (same-count held names files None takes.0 few) ∙ takes.1

pub many-stopped : (held : List ℕ → Option (List ℕ)) (names : List (List ℕ)) (refusal : Refusal) → too_many (length names) ≡ Some refusal → AreTooLarge held names refusal
many-stopped held names refusal many =
    let files = told_files held names in
    record {
      files = files;
      hold = told-hold held names;
      large = ap (λ f. option_or f (too_long 0 most_bytes files)) (same-count held names files (Some refusal) (told-hold held names) many);
    }

-- what ended the taking is what becomes of the files of the package
pub stopped-package : (held : List ℕ → Option (List ℕ)) (names : List (List ℕ)) (fault : TakingFault) → too_many (length names) ≡ None → StopsFiles held most_bytes 0 names fault → StopsPackage held names fault
stopped-package held names (Refused refusal) few (files, hold, long) = record {
  files = files;
  hold = hold;
  large = ap (λ f. option_or f (too_long 0 most_bytes files)) (same-count held names files None hold few) ∙ long;
}
stopped-package held names (Failed at) few (index, is, fails) =
    let spot : index ≡ at = sym (is ∙ omega arith) in
    record { few = few; fails = subst (FailsAt held most_bytes names []) spot fails }
stopped-package held names Memory few stops = tt

-- the same, of names and files as the program has them
module _ {X Y : Type 0} (f : X → List ℕ) (n : Y → List ℕ) (held now : List ℕ → Option (List ℕ)) (same : now ≡ held) (names : List Y) (number left : ℕ) (files : List X) (name : List ℕ) where
  pub pushed : (more : List X) (x : X) (len : ℕ) → HasTaken held 1048576 (map n names) number left (map f files)
      → number < length names → name ≡ file_name (map n names) number → TakesFile now left name (f x) → more ≡ files ++ x ∷ [] → len ≡ length (f x)
      → HasTaken held 1048576 (map n names) (number + 1) (left - len) (map f more)
  pushed more x len had within is takes grown count =
      let T : (List ℕ → Option (List ℕ)) → Type 0 = λ h. TakesFile h left name (f x) in
      let next = HasTaken-next held 1048576 (map n names) number left (map f files) name (f x) had (name-at n names number name within is) (subst T same takes) in
      let F : List (List ℕ) → Type 0 = λ fs. HasTaken held 1048576 (map n names) (number + 1) (left - length (f x)) fs in
      let L : ℕ → Type 0 = λ l. HasTaken held 1048576 (map n names) (number + 1) (left - l) (map f more) in
      subst L (sym count) (subst F (sym (ap (map f) grown ∙ map-append f files (x ∷ []))) next)

  pub stopped : (fault : TakingFault) → HasTaken held 1048576 (map n names) number left (map f files)
      → number < length names → name ≡ file_name (map n names) number → StopsFile now left number name fault
      → StopsFiles held 1048576 0 (map n names) fault
  stopped fault had within is stops =
      let T : (List ℕ → Option (List ℕ)) → Type 0 = λ h. StopsFile h left number name fault in
      stops-at held 1048576 (map n names) number left (map f files) name fault had (name-at n names number name within is) (subst T same stops)

pub taken-all : {X Y : Type 0} (f : X → List ℕ) (n : Y → List ℕ) (held : List ℕ → Option (List ℕ)) (names : List Y) (number left : ℕ) (files : List X)
    → HasTaken held 1048576 (map n names) number left (map f files) → length names ≤ number → TakesFiles held 1048576 (map n names) (map f files)
taken-all f n held names number left files had past =
    let M : ℕ → Type 0 = λ l. l ≤ number in
    takes-all held 1048576 (map n names) number left (map f files) had (drop-end (map n names) number (subst M (sym (length-map names n)) past))

pub too-many-names : {Y : Type 0} (n : Y → List ℕ) (held : List ℕ → Option (List ℕ)) (names : List Y) (refusal : Refusal) → Some refusal ≡ too_many (length names) → AreTooLarge held (map n names) refusal
too-many-names n held names refusal many = many-stopped held (map n names) refusal (ap too_many (length-map names n) ∙ sym many)

pub taken-package : {X Y : Type 0} (f : X → List ℕ) (n : Y → List ℕ) (held : List ℕ → Option (List ℕ)) (names : List Y) (files : List X) → too_many (length names) ≡ None → TakesFiles held 1048576 (map n names) (map f files) → TakesPackage held (map n names) (map f files)
taken-package f n held names files few takes = (takes.0, sized-taken held (map n names) (map f files) (ap too_many (length-map names n) ∙ few) takes)

pub fault-stopped : {Y : Type 0} (n : Y → List ℕ) (held : List ℕ → Option (List ℕ)) (names : List Y) (fault : TakingFault) → too_many (length names) ≡ None → StopsFiles held 1048576 0 (map n names) fault → StopsPackage held (map n names) fault
fault-stopped n held names fault few stops = stopped-package held (map n names) fault (ap too_many (length-map names n) ∙ few) stops
