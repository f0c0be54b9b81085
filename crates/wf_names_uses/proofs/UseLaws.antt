-- What the uses of names break is what the table of the rules of names has of them.
use Rattle.std.proofs.Common.{◌≡◌, ◌⊎◌, ℕ, zero, suc, Bool, true, false, not, List, [], ◌∷◌, map, Option, Some, None, slice_get, is_some, refl, sym, ap, ◌∙◌, subst, inl, inr}
use Rattle.wf_text.specs.declared.place.Place.{Place}
use Rattle.wf_text.specs.declared.rules.Refusal.{Refusal}
use Rattle.wf_text.specs.declared.rules.Rule.TheVariants.{N1, N2, N6, N7, N8}
use Rattle.wf_text.specs.Precedence.{sooner, soonest, Decides}
use Rattle.wf_text.proofs.PrecedenceLaws.{Decides-map, Decides-sooner}
use Rattle.wf_ast.specs.declared.parsed.Name.{Name}
use Rattle.wf_ast.specs.ParsedTree.{CallTree}
use Rattle.wf_names_rules.specs.declared.callees.Callee.{Callee}
use Rattle.wf_names_rules.specs.declared.callees.Callee.TheVariants as callees
use Rattle.wf_names_rules.specs.Declarations.{Declared, text_of, status_named, struct_named}
use Rattle.wf_names_rules.specs.Uses as uses
use Rattle.wf_names_rules.specs.Uses.{Use, Scope, Site, sites}
use Rattle.wf_names_rules.specs.Meanings.{Known, GivenValue, Parameters, is_base_status, known_at, path_sort, call_name, call_args, callee_of, call_has_meaning, parameters_of, lacks_one}
use Rattle.wf_names_rules.specs.Judged as judging
use Rattle.wf_names_rules.specs.Judged.{callee_refusal, unknown_status, unknown_base_status, unknown_variable, unknown_struct, given_judged, given_judged_if, call_judged, judged}
use Rattle.wf_names_rules.specs.NameRules as rules
use Rattle.wf_names_rules.specs.NameRules.{UseBreaks, IsUsed, given_names, unknown, twice}
use Rattle.wf_names_rules.proofs.ListLaws.{doubles-sound, doubles-complete}
use Rattle.wf_names_scopes.specs.UsesFound.{sites_judged, uses_found}
use Rattle.wf_names_uses.proofs.FoundLemmas.{Has, has-item, item-has, Decides-all, refused-cause, refused-so, not-cause, not-so, none-cause, none-so}
use Rattle.wf_names_uses.proofs.ArgumentLaws.{named, passed-sound, passed-complete, unknown-sound, unknown-complete, texts-same}

-- What the arguments of a call break.
pub data ArgsBreak (k : Known) (parameters : Parameters) (name : Name) (values : List GivenValue) (s : Refusal) : Type 0 where
  given_twice : Has s (judging.given_twice (named values)) → ArgsBreak k parameters name values s
  passed_twice : Has s (judging.passed_twice k.arg [] values) → ArgsBreak k parameters name values s
  unknown_argument : Has s (judging.unknown_arguments k.bytes parameters (named values)) → ArgsBreak k parameters name values s
  missing_argument : judging.missing_argument k.bytes parameters name (named values) ≡ Some s → ArgsBreak k parameters name values s

-- What a call breaks: by its method, and by its arguments where everything in it has a meaning.
pub data CallBreaks (k : Known) (c : CallTree) (s : Refusal) : Type 0 where
  by_callee : callee_refusal (callee_of k c) (call_name c) ≡ Some s → CallBreaks k c s
  by_args : call_has_meaning k c ≡ true → ArgsBreak k (parameters_of k.args (callee_of k c)) (call_name c) (call_args c) s → CallBreaks k c s

-- What one use breaks by what is known at its place.
abbrev pub UseBreaksHere : Known → Use → Refusal → Type 0
UseBreaksHere k (uses.own_status text) s = unknown_status k text ≡ Some s
UseBreaksHere k (uses.base_status text) s = unknown_base_status k text ≡ Some s
UseBreaksHere k (uses.variable path) s = unknown_variable k path ≡ Some s
UseBreaksHere k (uses.structure name) s = unknown_struct k name ≡ Some s
UseBreaksHere k (uses.method c) s = CallBreaks k c s

-- What is found of the arguments, pass by pass, after what was known.
abbrev ArgsFound : (Refusal → Type 0) → Known → Parameters → Name → List GivenValue → Refusal → Type 0
ArgsFound P k parameters name values s =
    (((P s ⊎ Has s (judging.given_twice (named values))) ⊎ Has s (judging.passed_twice k.arg [] values)) ⊎ Has s (judging.unknown_arguments k.bytes parameters (named values))) ⊎ (judging.missing_argument k.bytes parameters name (named values) ≡ Some s)

args-decide : (P : Refusal → Type 0) (k : Known) (found : Option Refusal) (parameters : Parameters) (name : Name) (values : List GivenValue) → Decides P found
    → Decides (λ s. P s ⊎ ArgsBreak k parameters name values s) (given_judged k found parameters name (named values) values)
args-decide P k found parameters name values h =
    let doubles = judging.given_twice (named values) in
    let passed = judging.passed_twice k.arg [] values in
    let unknowns = judging.unknown_arguments k.bytes parameters (named values) in
    let Q : Refusal → Type 0 = λ s. P s ⊎ Has s doubles in
    let R : Refusal → Type 0 = λ s. Q s ⊎ Has s passed in
    let T : Refusal → Type 0 = λ s. R s ⊎ Has s unknowns in
    let a = Decides-all P found doubles h in
    let b = Decides-all Q (soonest found doubles) passed a in
    let c = Decides-all R (soonest (soonest found doubles) passed) unknowns b in
    Decides-map (ArgsFound P k parameters name values) (λ s. P s ⊎ ArgsBreak k parameters name values s) (given_judged k found parameters name (named values) values) to from
    (Decides-sooner T (soonest (soonest (soonest found doubles) passed) unknowns) (judging.missing_argument k.bytes parameters name (named values)) c)
  where
    to : (s : Refusal) → ArgsFound P k parameters name values s → P s ⊎ ArgsBreak k parameters name values s
    to s (inl (inl (inl (inl p)))) = inl p
    to s (inl (inl (inl (inr q)))) = inr (given_twice q)
    to s (inl (inl (inr q))) = inr (passed_twice q)
    to s (inl (inr q)) = inr (unknown_argument q)
    to s (inr q) = inr (missing_argument q)

    from : (s : Refusal) → P s ⊎ ArgsBreak k parameters name values s → ArgsFound P k parameters name values s
    from s (inl p) = inl (inl (inl (inl p)))
    from s (inr (given_twice q)) = inl (inl (inl (inr q)))
    from s (inr (passed_twice q)) = inl (inl (inr q))
    from s (inr (unknown_argument q)) = inl (inr q)
    from s (inr (missing_argument q)) = inr q

args-decide-if : (P : Refusal → Type 0) (t : Bool) (k : Known) (found : Option Refusal) (parameters : Parameters) (name : Name) (values : List GivenValue) → Decides P found
    → Decides (λ s. P s ⊎ ((t ≡ true) × ArgsBreak k parameters name values s)) (given_judged_if t k found parameters name values)
args-decide-if P true k found parameters name values h =
    Decides-map (λ s. P s ⊎ ArgsBreak k parameters name values s) (λ s. P s ⊎ ((true ≡ true) × ArgsBreak k parameters name values s)) (given_judged k found parameters name (named values) values)
    (λ s c. elim c [ inl p ↦ inl p | inr q ↦ inr (refl, q) ]) (λ s c. elim c [ inl p ↦ inl p | inr q ↦ inr q.1 ]) (args-decide P k found parameters name values h)
args-decide-if P false k found parameters name values h =
    Decides-map P (λ s. P s ⊎ ((false ≡ true) × ArgsBreak k parameters name values s)) found (λ s p. inl p) (λ s c. elim c [ inl p ↦ p | inr q ↦ absurd (cc q.0) ]) h

call-decides : (P : Refusal → Type 0) (k : Known) (found : Option Refusal) (c : CallTree) → Decides P found → Decides (λ s. P s ⊎ CallBreaks k c s) (call_judged k found c)
call-decides P k found c h =
    let callee = callee_refusal (callee_of k c) (call_name c) in
    let parameters = parameters_of k.args (callee_of k c) in
    let t = call_has_meaning k c in
    let Q : Refusal → Type 0 = λ s. P s ⊎ (callee ≡ Some s) in
    Decides-map (λ s. Q s ⊎ ((t ≡ true) × ArgsBreak k parameters (call_name c) (call_args c) s)) (λ s. P s ⊎ CallBreaks k c s) (call_judged k found c) to from
    (args-decide-if Q t k (sooner found callee) parameters (call_name c) (call_args c) (Decides-sooner P found callee h))
  where
    to : (s : Refusal) → (P s ⊎ (callee_refusal (callee_of k c) (call_name c) ≡ Some s)) ⊎ ((call_has_meaning k c ≡ true) × ArgsBreak k (parameters_of k.args (callee_of k c)) (call_name c) (call_args c) s)
        → P s ⊎ CallBreaks k c s
    to s (inl (inl p)) = inl p
    to s (inl (inr q)) = inr (by_callee q)
    to s (inr q) = inr (by_args q.0 q.1)

    from : (s : Refusal) → P s ⊎ CallBreaks k c s
        → (P s ⊎ (callee_refusal (callee_of k c) (call_name c) ≡ Some s)) ⊎ ((call_has_meaning k c ≡ true) × ArgsBreak k (parameters_of k.args (callee_of k c)) (call_name c) (call_args c) s)
    from s (inl p) = inl (inl p)
    from s (inr (by_callee q)) = inl (inr q)
    from s (inr (by_args m q)) = inr (m, q)

pub judged-decides : (P : Refusal → Type 0) (k : Known) (found : Option Refusal) (usage : Use) → Decides P found → Decides (λ s. P s ⊎ UseBreaksHere k usage s) (judged k found usage)
judged-decides P k found (uses.own_status text) h = Decides-sooner P found (unknown_status k text) h
judged-decides P k found (uses.base_status text) h = Decides-sooner P found (unknown_base_status k text) h
judged-decides P k found (uses.variable path) h = Decides-sooner P found (unknown_variable k path) h
judged-decides P k found (uses.structure name) h = Decides-sooner P found (unknown_struct k name) h
judged-decides P k found (uses.method c) h = call-decides P k found c h

-- What the places of a list break.
abbrev SitesBreak : Declared → List Site → Refusal → Type 0
SitesBreak d [] s = ⊥
SitesBreak d (site ∷ rest) s = UseBreaksHere (known_at d site.scope) site.usage s ⊎ SitesBreak d rest s

sites-decide : (d : Declared) (P : Refusal → Type 0) (found : Option Refusal) (all : List Site) → Decides P found → Decides (λ s. P s ⊎ SitesBreak d all s) (sites_judged d found all)
sites-decide d P found [] h = Decides-map P (λ s. P s ⊎ ⊥) found (λ s p. inl p) (λ s c. elim c [ inl p ↦ p | inr q ↦ absurd q ]) h
sites-decide d P found (site ∷ rest) h =
    let Here : Refusal → Type 0 = UseBreaksHere (known_at d site.scope) site.usage in
    Decides-map (λ s. (P s ⊎ Here s) ⊎ SitesBreak d rest s) (λ s. P s ⊎ (Here s ⊎ SitesBreak d rest s)) (sites_judged d (judged (known_at d site.scope) found site.usage) rest)
    (λ s c. elim c [ inl p ↦ elim p [ inl k ↦ inl k | inr e ↦ inr (inl e) ] | inr q ↦ inr (inr q) ])
    (λ s c. elim c [ inl k ↦ inl (inl k) | inr q ↦ elim q [ inl e ↦ inl (inr e) | inr a ↦ inr a ] ])
    (sites-decide d (λ s. P s ⊎ Here s) (judged (known_at d site.scope) found site.usage) rest (judged-decides P (known_at d site.scope) found site.usage h))

at-site : (d : Declared) (s : Refusal) (all : List Site) (i : ℕ) (site : Site) → slice_get all i ≡ Some site → UseBreaksHere (known_at d site.scope) site.usage s → SitesBreak d all s
at-site d s [] i site e h = absurd (cc e)
at-site d s (x ∷ xs) zero site e h =
    inl (let F : Site → Type 0 = λ y. UseBreaksHere (known_at d y.scope) y.usage s in subst F (let same : site ≡ x = cc e in same) h)
at-site d s (x ∷ xs) (suc i) site e h = inr (at-site d s xs i site e h)

all-sites : (d : Declared) (s : Refusal) (P : Type 0) (all : List Site)
    → ((i : ℕ) (site : Site) → slice_get all i ≡ Some site → UseBreaksHere (known_at d site.scope) site.usage s → P) → SitesBreak d all s → P
all-sites d s P [] each h = absurd h
all-sites d s P (x ∷ xs) each (inl h) = each 0 x refl h
all-sites d s P (x ∷ xs) each (inr h) = all-sites d s P xs (λ i site e. each (suc i) site e) h

-- What is found has its row in the table.
callee-breaks : (d : Declared) (scope : Scope) (c : CallTree) (s : Refusal) → IsUsed d scope (uses.method c)
    → (callee : Callee) → callee_of (known_at d scope) c ≡ callee → callee_refusal callee (call_name c) ≡ Some s → UseBreaks d s
callee-breaks d scope c s used callees.Missing is e = subst (UseBreaks d) (let same : unknown (call_name c) ≡ s = cc e in same) (rules.unknown_method scope c used is)
callee-breaks d scope c s used callees.Foreign is e =
    subst (UseBreaks d) (let same : record { rule = N8; at = (call_name c).at } ≡ s = cc e in same) (rules.foreign_method scope c used is)
callee-breaks d scope c s used (callees.Hidden m) is e =
    subst (UseBreaks d) (let same : record { rule = N8; at = (call_name c).at } ≡ s = cc e in same) (rules.private_method scope c m used is)
callee-breaks d scope c s used callees.Baseless is e = absurd (cc e)
callee-breaks d scope c s used (callees.Own m) is e = absurd (cc e)
callee-breaks d scope c s used (callees.Base sig) is e = absurd (cc e)

passed-breaks : (d : Declared) (scope : Scope) (c : CallTree) (s : Refusal) → IsUsed d scope (uses.method c) → call_has_meaning (known_at d scope) c ≡ true
    → Has s (judging.passed_twice (known_at d scope).arg [] (call_args c)) → UseBreaks d s
passed-breaks d scope c s used m h =
    let r = passed-sound (known_at d scope).arg [] (call_args c) s h in
    elim r.before [
      | inl none ↦ absurd (cc none)
      | inr q ↦ subst (UseBreaks d) (sym r.refused) (rules.passed_twice scope c r.path.at used m (record {
        first = q.i;
        second = r.j;
        earlier = q.earlier;
        later = r.later;
        path = r.path;
        order = q.below;
        at_first = q.is;
        at_second = r.is;
        is_arg = r.root;
        passed = r.value;
        same = q.same;
        io = r.io;
        here = refl;
      }))
    ]

args-break : (d : Declared) (scope : Scope) (c : CallTree) (s : Refusal) → IsUsed d scope (uses.method c) → call_has_meaning (known_at d scope) c ≡ true
    → ArgsBreak (known_at d scope) (parameters_of (known_at d scope).args (callee_of (known_at d scope) c)) (call_name c) (call_args c) s → UseBreaks d s
args-break d scope c s used m (given_twice h) =
    let r = doubles-sound (given_names c) s (item-has s (judging.given_twice (given_names c)) h) in
    subst (UseBreaks d) (sym r.1.1) (rules.given_twice scope c r.0 used m r.1.0)
args-break d scope c s used m (passed_twice h) = passed-breaks d scope c s used m h
args-break d scope c s used m (unknown_argument h) =
    let r = unknown-sound (text_of d) (parameters_of (known_at d scope).args (callee_of (known_at d scope) c)) (call_args c) s h in
    subst (UseBreaks d) (sym r.refused) (rules.unknown_argument scope c r.i r.given used m r.is r.unknown)
args-break d scope c s used m (missing_argument h) =
    let parameters = parameters_of (known_at d scope).args (callee_of (known_at d scope) c) in
    let r = refused-cause (lacks_one (text_of d) parameters (map (λ n. n.text.0) (named (call_args c)))) N7 (call_name c).at s h in
    subst (UseBreaks d) (sym r.1) (rules.missing_argument scope c used m (ap (lacks_one (text_of d) parameters) (sym (texts-same (call_args c))) ∙ r.0))

here-breaks : (d : Declared) (scope : Scope) (usage : Use) (s : Refusal) → IsUsed d scope usage → UseBreaksHere (known_at d scope) usage s → UseBreaks d s
here-breaks d scope (uses.own_status text) s used h =
    let r = refused-cause (not (is_some (status_named d text.text.0))) N1 text.at s h in
    subst (UseBreaks d) (sym r.1) (rules.unknown_status scope text used (none-cause (status_named d text.text.0) r.0))
here-breaks d scope (uses.base_status text) s used h =
    let r = refused-cause (not (is_base_status (text_of d text.text.0))) N1 text.at s h in
    subst (UseBreaks d) (sym r.1) (rules.unknown_base_status scope text used (not-cause (is_base_status (text_of d text.text.0)) r.0))
here-breaks d scope (uses.variable path) s used h =
    let r = refused-cause (not (is_some (path_sort (known_at d scope) path))) N1 path.name.at s h in
    subst (UseBreaks d) (sym r.1) (rules.unknown_variable scope path used (none-cause (path_sort (known_at d scope) path) r.0))
here-breaks d scope (uses.structure name) s used h =
    let r = refused-cause (not (is_some (struct_named d name.text.0))) N1 name.at s h in
    subst (UseBreaks d) (sym r.1) (rules.unknown_struct scope name used (none-cause (struct_named d name.text.0) r.0))
here-breaks d scope (uses.method c) s used (by_callee e) = callee-breaks d scope c s used (callee_of (known_at d scope) c) refl e
here-breaks d scope (uses.method c) s used (by_args m h) = args-break d scope c s used m h

-- Every row of the table is found.
found-there : (d : Declared) (scope : Scope) (usage : Use) (s : Refusal) → IsUsed d scope usage → UseBreaksHere (known_at d scope) usage s → SitesBreak d (sites d) s
found-there d scope usage s used h = at-site d s (sites d) used.0 (record { scope = scope; usage = usage }) used.1 h

pub every-row-is-found : (d : Declared) (s : Refusal) → UseBreaks d s → SitesBreak d (sites d) s
every-row-is-found d _ (rules.unknown_status scope text used none) =
    found-there d scope (uses.own_status text) (unknown text) used (refused-so (not (is_some (status_named d text.text.0))) N1 text.at (none-so (status_named d text.text.0) none))
every-row-is-found d _ (rules.unknown_base_status scope text used none) =
    found-there d scope (uses.base_status text) (unknown text) used (refused-so (not (is_base_status (text_of d text.text.0))) N1 text.at (not-so (is_base_status (text_of d text.text.0)) none))
every-row-is-found d _ (rules.unknown_variable scope path used none) =
    found-there d scope (uses.variable path) (unknown path.name) used (refused-so (not (is_some (path_sort (known_at d scope) path))) N1 path.name.at (none-so (path_sort (known_at d scope) path) none))
every-row-is-found d _ (rules.unknown_struct scope name used none) =
    found-there d scope (uses.structure name) (unknown name) used (refused-so (not (is_some (struct_named d name.text.0))) N1 name.at (none-so (struct_named d name.text.0) none))
every-row-is-found d _ (rules.unknown_method scope c used is) =
    found-there d scope (uses.method c) (unknown (call_name c)) used (by_callee (ap (λ callee. callee_refusal callee (call_name c)) is))
every-row-is-found d _ (rules.given_twice scope c later used m repeated) =
    let s = twice later in
    found-there d scope (uses.method c) s used (by_args m (given_twice (has-item s (judging.given_twice (given_names c)) (doubles-complete (given_names c) s (later, (repeated, refl))))))
every-row-is-found d _ (rules.passed_twice scope c at used m p) =
    let found = passed-complete (known_at d scope).arg [] (call_args c) p.first p.second p.earlier p.later p.path p.order p.at_first p.at_second p.is_arg p.passed p.same p.io in
    let F : Place → Type 0 = λ x. Has (record { rule = N2; at = x }) (judging.passed_twice (known_at d scope).arg [] (call_args c)) in
    found-there d scope (uses.method c) (record { rule = N2; at = at }) used (by_args m (passed_twice (subst F (sym p.here) found)))
every-row-is-found d _ (rules.unknown_argument scope c i given used m is none) =
    found-there d scope (uses.method c) (record { rule = N6; at = given.name.at }) used
    (by_args m (unknown_argument (unknown-complete (text_of d) (parameters_of (known_at d scope).args (callee_of (known_at d scope) c)) (call_args c) i given is none)))
every-row-is-found d _ (rules.missing_argument scope c used m lacks) =
    let parameters = parameters_of (known_at d scope).args (callee_of (known_at d scope) c) in
    found-there d scope (uses.method c) (record { rule = N7; at = (call_name c).at }) used
    (by_args m (missing_argument (refused-so (lacks_one (text_of d) parameters (map (λ n. n.text.0) (named (call_args c)))) N7 (call_name c).at
    (ap (lacks_one (text_of d) parameters) (texts-same (call_args c)) ∙ lacks))))
every-row-is-found d _ (rules.foreign_method scope c used is) =
    found-there d scope (uses.method c) (record { rule = N8; at = (call_name c).at }) used (by_callee (ap (λ callee. callee_refusal callee (call_name c)) is))
every-row-is-found d _ (rules.private_method scope c n used is) =
    found-there d scope (uses.method c) (record { rule = N8; at = (call_name c).at }) used (by_callee (ap (λ callee. callee_refusal callee (call_name c)) is))

pub what-is-found-breaks : (d : Declared) (s : Refusal) → SitesBreak d (sites d) s → UseBreaks d s
what-is-found-breaks d s h = all-sites d s (UseBreaks d s) (sites d) (λ i site e k. here-breaks d site.scope site.usage s (i, e) k) h

-- The first refusal of the causes that were known and what the uses of names break.
pub uses_found-decides-behind : (d : Declared) (P : Refusal → Type 0) (found : Option Refusal) → Decides P found → Decides (λ s. P s ⊎ UseBreaks d s) (uses_found d found)
uses_found-decides-behind d P found h =
    Decides-map (λ s. P s ⊎ SitesBreak d (sites d) s) (λ s. P s ⊎ UseBreaks d s) (sites_judged d found (sites d))
    (λ s c. elim c [ inl p ↦ inl p | inr q ↦ inr (what-is-found-breaks d s q) ]) (λ s c. elim c [ inl p ↦ inl p | inr q ↦ inr (every-row-is-found d s q) ])
    (sites-decide d P found (sites d) h)

-- And among these alone.
pub uses_found-decides : (d : Declared) → Decides (UseBreaks d) (uses_found d None)
uses_found-decides d =
    Decides-map (λ s. ⊥ ⊎ UseBreaks d s) (UseBreaks d) (uses_found d None) (λ s c. elim c [ inl none ↦ absurd none | inr q ↦ q ]) (λ s q. inr q)
    (uses_found-decides-behind d (λ s. ⊥) None (λ s none. none))
