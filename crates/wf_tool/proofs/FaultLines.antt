-- What is told of a fault is what is called for.
use Rattle.std.proofs.Common.{◌≡◌, ◌+◌, ◌-◌, ◌<◌, ℕ, zero, suc, Bool, if◌then◌else◌, nat_eq, List, [], ◌∷◌, ◌++◌, length, Option, None, Some, IfOk, IfSome, Result, Ok, Err, string_bytes, slice_get, unwrap_or, refl, sym, ap, ◌∙◌, subst, arith}
use Rattle.std.proofs.lemmas.Bool.Decides.{nat_tests}
use Rattle.wf_text.specs.declared.rules.Refusal.{Refusal}
use Rattle.wf_tool.specs.declared.ending.Ending.{Ending}
use Rattle.wf_tool.specs.declared.ending.Ending.TheVariants as endings
use Rattle.wf_text.specs.declared.faults.NoMemory.{NoMemory as Wants}
use Rattle.wf_tool.specs.declared.tool.Answer.{Answer}
use Rattle.wf_tool.specs.declared.taking.TakingFault.{TakingFault}
use Rattle.wf_tool.specs.declared.taking.TakingFault.TheVariants.{Refused, Failed, Memory}
use Rattle.wf_tool.specs.Answer.{AreHeld, CallsForFault, CallsForRefusal, FailsAt, file_name}
use Rattle.wf_tool.specs.Lines.{fault_line, refused_line}
use Rattle.wf_tool.specs.Sizes.{most_bytes, too_long, too_many}
use Rattle.wf_tool.specs.Taken.{CountsTaking, FailsHeld, FaultsPackage, NamesFailed, NamesFile, RefusesHeld, StopsPackage, StopsScript, TakesPackage}
use Rattle.c_step.specs.Loading.{SeenOf}
use Rattle.wf_tool.specs.Told.{CheckTold, ExecTold, GenTold, IsFaultTold, IsTold, MeanTold, RunTold, input_name}
use Rattle.wf_tool.specs.Verdict.{large}
use Rattle.wf_tool.specs.Words.{PackageWords}
use Rattle.wf_tool.proofs.RefusalFiles.{held-file}
use Rattle.wf_tool.proofs.TakingLemmas.{AreHeld-length, short-first, sized-both}

named-before : (names more : List (List ℕ)) (number : ℕ) → number < length names → file_name (names ++ more) number ≡ file_name names number
named-before [] more number within = absurd (omega (arith, within))
named-before (name ∷ names) more zero within = refl
named-before (name ∷ names) more (suc number) within = named-before names more number (omega (arith, within))

fails-within : (held : List ℕ → Option (List ℕ)) (most : ℕ) (names others : List (List ℕ)) (number : ℕ) → FailsAt held most names others number → number < length names + length others
fails-within held most [] others number f = let within : number < length others = f in omega (arith, within)
fails-within held most (name ∷ names) others zero f = omega arith
fails-within held most (name ∷ names) others (suc number) f =
    let within = fails-within held (most - length f.0) names others number f.3 in
    omega (arith, within)

-- The name of an input, as it is found.
next-same : (a b : ℕ) → nat_eq (suc a) (suc b) ≡ nat_eq a b
next-same a b = grind (arith, nat_tests)

next-name : (file : List ℕ) (files : List (List ℕ)) (script text : List ℕ) (number : ℕ) → input_name (file ∷ files) script text (suc number) ≡ input_name files script text number
next-name file files script text number = ap (λ (b : Bool). unwrap_or (slice_get files number) (if b then script else text)) (next-same number (length files))

first-name : (files : List (List ℕ)) (script text : List ℕ) (number : ℕ) → number < length files + 0 → input_name files script text number ≡ file_name (files ++ []) number
first-name [] script text number within = absurd (omega (arith, within))
first-name (file ∷ files) script text zero within = refl
first-name (file ∷ files) script text (suc number) within = next-name file files script text number ∙ first-name files script text number (omega (arith, within))

script-name : (files : List (List ℕ)) (script text : List ℕ) (number : ℕ) → number < length files + 1 → input_name files script text number ≡ file_name (files ++ script ∷ []) number
script-name [] script text zero within = refl
script-name [] script text (suc number) within = absurd (omega (arith, within))
script-name (file ∷ files) script text zero within = refl
script-name (file ∷ files) script text (suc number) within = next-name file files script text number ∙ script-name files script text number (omega (arith, within))

text-name : (files : List (List ℕ)) (script text : List ℕ) (number : ℕ) → number < length files + 2 → input_name files script text number ≡ file_name (files ++ script ∷ text ∷ []) number
text-name [] script text zero within = refl
text-name [] script text (suc zero) within = refl
text-name [] script text (suc (suc number)) within = absurd (omega (arith, within))
text-name (file ∷ files) script text zero within = refl
text-name (file ∷ files) script text (suc number) within = next-name file files script text number ∙ text-name files script text number (omega (arith, within))

abbrev faulted : TakingFault → Result ℕ TakingFault
faulted fault = Err fault

module _ (held : List ℕ → Option (List ℕ)) (failed : Option (List ℕ)) (asked : PackageWords) where
  refusal-called : (refusal : Refusal) (line : List ℕ) → RefusesHeld held asked refusal → line ≡ refused_line (file_name asked.files refusal.at.file) refusal → CallsForRefusal held asked line
  refusal-called refusal line refuses is = record {
    files = refuses.files;
    refusal = refusal;
    hold = refuses.hold;
    verdict = refuses.verdict;
    there = held-file held asked.package_name asked.files refuses.files refusal refuses.hold refuses.verdict;
    writes = is;
  }

  fault-called : (others : List (List ℕ)) (number : ℕ) (name line : List ℕ) → FailsHeld held asked.files others number → IfSome failed (λ last. last ≡ file_name (asked.files ++ others) number)
      → name ≡ file_name (asked.files ++ others) number → line ≡ fault_line name → CallsForFault held failed asked others line
  fault-called others number name line fails last same is = record { number = number; few = fails.few; fails = fails.fails; writes = is ∙ ap fault_line same; last = last }

  -- What a command calls for, where it calls for these lines of refusals and of faults.
  module _ (others : List (List ℕ)) (script other : List ℕ) (calls : Ending → List ℕ → Type 0) (before now : ℕ)
      (refusals : (line : List ℕ) → CallsForRefusal held asked line → now ≡ before → calls endings.Refused line)
      (faults : (line : List ℕ) → CallsForFault held failed asked others line → before < now → calls endings.InputFault line)
      (named : (number : ℕ) → number < length asked.files + length others → input_name asked.files script other number ≡ file_name (asked.files ++ others) number) where
    pub fault-told : (fault : TakingFault) → FaultsPackage held asked others fault → CountsTaking before now (faulted fault) → NamesFailed failed (asked.files ++ others) fault
        → (ending : Ending) (text : List ℕ) → IsFaultTold asked.files script other fault ending text → calls ending text
    fault-told (Refused refusal) is counts last ending text told =
        let C : Ending → Type 0 = λ e. calls e text in
        subst C (sym told.0) (refusals text (refusal-called refusal text is told.1) counts)
    fault-told (Failed number) is counts last ending text told =
        let C : Ending → Type 0 = λ e. calls e text in
        let within = fails-within held most_bytes asked.files others number is.fails in
        subst C (sym told.0) (faults text (fault-called others number (input_name asked.files script other number) text is last (named number within) told.1) counts)
    fault-told Memory is counts last ending text told = absurd told

  -- Under `check` and `gen` nothing is taken but the files.
  more-names : (fault : TakingFault) → FaultsPackage held asked [] fault → NamesFailed failed asked.files fault → NamesFailed failed (asked.files ++ []) fault
  more-names (Refused refusal) is last = tt
  more-names (Failed number) is last = last-named failed last
    where
      last-named : (last : Option (List ℕ)) → IfSome last (λ name. name ≡ file_name asked.files number) → IfSome last (λ name. name ≡ file_name (asked.files ++ []) number)
      last-named None h = tt
      last-named (Some name) h = h ∙ sym (named-before asked.files [] number (omega (arith, fails-within held most_bytes asked.files [] number is.fails)))
  more-names Memory is last = tt

  pub check-fault-told : (before now : ℕ) (fault : TakingFault) → FaultsPackage held asked [] fault → CountsTaking before now (faulted fault) → NamesFailed failed asked.files fault
      → (ending : Ending) (text : List ℕ) → IsFaultTold asked.files [] [] fault ending text → CheckTold held failed asked before now ending text
  check-fault-told before now fault is counts last =
      fault-told [] [] [] (CheckTold held failed asked before now) before now (λ line c n. (c, n)) (λ line c n. (c, n)) (first-name asked.files [] []) fault is counts (more-names fault is last)

  pub gen-fault-told : (before now : ℕ) (fault : TakingFault) → FaultsPackage held asked [] fault → CountsTaking before now (faulted fault) → NamesFailed failed asked.files fault
      → (ending : Ending) (text : List ℕ) → IsFaultTold asked.files [] [] fault ending text → GenTold held failed asked before now ending text
  gen-fault-told before now fault is counts last =
      fault-told [] [] [] (GenTold held failed asked before now) before now (λ line c n. (c, n)) (λ line c n. (c, n)) (first-name asked.files [] []) fault is counts (more-names fault is last)

  -- Under `run` and `mean` the script is taken after the files.
  pub run-fault-told : (seen : SeenOf) (script : List ℕ) (before now : ℕ) (fault : TakingFault) → FaultsPackage held asked (script ∷ []) fault → CountsTaking before now (faulted fault)
      → NamesFailed failed (asked.files ++ script ∷ []) fault → (ending : Ending) (text : List ℕ) → IsFaultTold asked.files script [] fault ending text → RunTold seen held failed asked script before now ending text
  run-fault-told seen script before now =
      fault-told (script ∷ []) script [] (RunTold seen held failed asked script before now) before now (λ line c n. (c, n)) (λ line c n. (c, n)) (script-name asked.files script [])

  pub mean-fault-told : (script : List ℕ) (before now : ℕ) (fault : TakingFault) → FaultsPackage held asked (script ∷ []) fault → CountsTaking before now (faulted fault)
      → NamesFailed failed (asked.files ++ script ∷ []) fault → (ending : Ending) (text : List ℕ) → IsFaultTold asked.files script [] fault ending text → MeanTold held failed asked script before now ending text
  mean-fault-told script before now =
      fault-told (script ∷ []) script [] (MeanTold held failed asked script before now) before now (λ line c n. (c, n)) (λ line c n. (c, n)) (script-name asked.files script [])

  -- Under `exec` a text is taken after it.
  pub exec-fault-told : (seen : SeenOf) (script other : List ℕ) (before now : ℕ) (fault : TakingFault) → FaultsPackage held asked (script ∷ other ∷ []) fault → CountsTaking before now (faulted fault)
      → NamesFailed failed (asked.files ++ script ∷ other ∷ []) fault → (ending : Ending) (text : List ℕ) → IsFaultTold asked.files script other fault ending text
      → ExecTold seen held failed asked script other before now ending text
  exec-fault-told seen script other before now =
      fault-told (script ∷ other ∷ []) script other (ExecTold seen held failed asked script other before now) before now (λ line c n. (c, n)) (λ line c n. (c, n)) (text-name asked.files script other)

-- What is told of an answer.
pub told-answer : (P : Ending → List ℕ → Type 0) (r : Result Answer Wants) → IfOk r (λ it. P it.ending (string_bytes it.line)) → (ending : Ending) (text : List ℕ) → IsTold r ending text → P ending text
told-answer P (Ok it) h ending text told =
    let T : List ℕ → Type 0 = λ t. P it.ending t in
    let E : Ending → Type 0 = λ e. P e text in
    subst E (sym told.0) (subst T (sym told.1) h)
told-answer P (Err fault) h ending text told = absurd told

-- A file of a package that isn't taken, before the others.
fails-more : (held : List ℕ → Option (List ℕ)) (most : ℕ) (names others : List (List ℕ)) (number : ℕ) → FailsAt held most names [] number → FailsAt held most names others number
fails-more held most [] others number f = absurd (omega (arith, f))
fails-more held most (name ∷ names) others zero f = tt
fails-more held most (name ∷ names) others (suc number) f = (f.0, f.1, f.2, fails-more held (most - length f.0) names others number f.3)

module _ (held : List ℕ → Option (List ℕ)) (asked : PackageWords) (others : List (List ℕ)) where
  pub stopped-faults : (fault : TakingFault) → StopsPackage held asked.files fault → FaultsPackage held asked others fault
  stopped-faults (Refused refusal) stops = record { files = stops.files; hold = stops.hold; verdict = large stops.large }
  stopped-faults (Failed number) stops = record { few = stops.few; fails = fails-more held most_bytes asked.files others number stops.fails }
  stopped-faults Memory stops = tt

  pub stopped-names : (failed : Option (List ℕ)) (fault : TakingFault) → StopsPackage held asked.files fault → NamesFailed failed asked.files fault → NamesFailed failed (asked.files ++ others) fault
  stopped-names failed (Refused refusal) stops last = tt
  stopped-names None (Failed number) stops last = tt
  stopped-names (Some name) (Failed number) stops last = last ∙ sym (named-before asked.files others number (omega (arith, fails-within held most_bytes asked.files [] number stops.fails)))
  stopped-names failed Memory stops last = tt

-- One of the others that isn't taken, after the files.
within-bytes : (held : List ℕ → Option (List ℕ)) (number most : ℕ) (names files others : List (List ℕ)) (k : ℕ) → AreHeld held names files → too_long number most files ≡ None → k < length others → FailsAt held most names others (length names + k)
within-bytes held number most [] [] others k hold short within = let last : 0 + k < length others = omega (arith, within) in last
within-bytes held number most [] (file ∷ files) others k hold short within = absurd hold
within-bytes held number most (name ∷ names) [] others k hold short within = absurd hold
within-bytes held number most (name ∷ names) (file ∷ files) others k hold short within =
    let both = short-first number most file files short in
    let F : ℕ → Type 0 = FailsAt held most (name ∷ names) others in
    let spot : suc (length names + k) ≡ suc (length names) + k = omega arith in
    subst F spot (file, hold.0, both.0, within-bytes held (number + 1) (most - length file) names files others k hold.1 both.1 within)

named-after : (names others : List (List ℕ)) (k : ℕ) → file_name (names ++ others) (length names + k) ≡ file_name others k
named-after [] others k = let spot : 0 + k ≡ k = omega arith in ap (file_name others) spot
named-after (name ∷ names) others k =
    let spot : suc (length names) + k ≡ suc (length names + k) = omega arith in
    ap (file_name (name ∷ (names ++ others))) spot ∙ named-after names others k

module _ (held : List ℕ → Option (List ℕ)) (asked : PackageWords) (others : List (List ℕ)) (k : ℕ) (within : k < length others) (files : List (List ℕ)) (taken : TakesPackage held asked.files files) (number : ℕ) (count : number ≡ length asked.files + k) where
  pub other-faults : (fault : TakingFault) → StopsScript number fault → FaultsPackage held asked others fault
  other-faults (Refused refusal) stops = absurd stops
  other-faults (Failed at) stops =
      let sized = sized-both files taken.1 in
      let few : too_many (length asked.files) ≡ None = subst (λ n. too_many n ≡ None) (sym (AreHeld-length held asked.files files taken.0)) sized.0 in
      let F : ℕ → Type 0 = FailsAt held most_bytes asked.files others in
      record { few = few; fails = subst F (sym (stops ∙ count)) (within-bytes held 0 most_bytes asked.files files others k taken.0 sized.1 within) }
  other-faults Memory stops = tt

  pub other-names : (failed : Option (List ℕ)) (name : List ℕ) (fault : TakingFault) → name ≡ file_name others k → StopsScript number fault → NamesFile failed name fault → NamesFailed failed (asked.files ++ others) fault
  other-names failed name (Refused refusal) same stops last = tt
  other-names None name (Failed at) same stops last = tt
  other-names (Some it) name (Failed at) same stops last = last ∙ same ∙ sym (ap (file_name (asked.files ++ others)) (stops ∙ count) ∙ named-after asked.files others k)
  other-names failed name Memory same stops last = tt
