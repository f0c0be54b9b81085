-- Reading gives one answer: file by file the same texts and tokens, hence the same trees or the same refusal.
use Rattle.std.proofs.Common.{◌≡◌, ◌≤◌, ◌<◌, ◌+◌, ◌-◌, ◌⊎◌, inl, inr, ℕ, suc, Bool, true, false, Option, None, Some, List, [], ◌∷◌, ◌++◌, length, refl, sym, ◌∙◌, ap, subst, arith, append_assoc, length-append}
use Rattle.std.specs.List.{slice_get}
use Rattle.wf_text.specs.declared.place.Place.{Place}
use Rattle.wf_text.specs.declared.rules.Refusal.{Refusal}
use Rattle.wf_text.specs.declared.rules.Rule.{Rule}
use Rattle.wf_text.specs.declared.rules.Rule.TheVariants.{S5, S6, L3, L4, L5}
use Rattle.wf_ast.specs.declared.numbers.TextId.{TextId}
use Rattle.wf_ast.specs.ParsedParts.{AreDistinct}
use Rattle.wf_ast.specs.ParsedTree.{DeclTree}
use Rattle.wf_ast.specs.ReadPackage.{decls_of}
use Rattle.wf_parse_grammar.specs.declared.tokens.Kind.{Kind}
use Rattle.wf_parse_grammar.specs.declared.tokens.Kind.TheVariants as kinds
use Rattle.wf_parse_grammar.specs.declared.tokens.Token.{Token}
use Rattle.wf_parse_grammar.specs.Brackets.{opened, closed}
use Rattle.wf_parse_grammar.specs.Files.{IsFile, IsLive, IsFirstWrong}
use Rattle.wf_parse_grammar.specs.Refusals.{IsAccepted, IsRefused, IsTooDeep, IsTooLong}
use Rattle.wf_parse_grammar.specs.Statements.{is_break, begins_statement, counted, break_from, count_from, ends_in_break, begun}
use Rattle.wf_parse_grammar.proofs.Verdicts.{accepted-once, accepted-refused, refused-once}
use Rattle.wf_tokens.specs.declared.kinds.TokenKind.{TokenKind}
use Rattle.wf_tokens.specs.declared.kinds.TokenKind.TheVariants as spelt
use Rattle.wf_tokens.specs.Places.{behind_bytes, first_place}
use Rattle.wf_tokens.specs.Spelling.{Item}
use Rattle.wf_tokens.proofs.SpellingLaws.{tokens_unique, refusals_unique, never_both}
use Rattle.wf_parse.specs.Kinds.{KindIs}
use Rattle.wf_parse.specs.Lexing.{TokenIs, TokensAre, IsWholeFile, IsFileUpTo, AreTokensOf}
use Rattle.wf_parse.specs.OneReading as law
use Rattle.wf_parse.specs.OneReading.{TreesAreUnique, RefusalsAreUnique, TextsAreDistinct}
use Rattle.wf_parse.specs.Parsing.{IsPastTokens, IsWrong, ReadsFile, RefusesFile, ReadsFiles, RefusesFiles, refusal_of}
use Rattle.wf_parse.specs.Texts.{texts_behind}
use Rattle.wf_parse.proofs.TextNumbers.{texts_behind-distinct, no_texts-distinct}

-- Where equal texts have equal numbers, a token is one token of the grammar.
same_text : (texts : List (List ℕ)) → AreDistinct texts → (text : List ℕ) (n m : TextId) → slice_get texts n.0 ≡ Some text → slice_get texts m.0 ≡ Some text → n ≡ m
same_text texts distinct text n m g h = let made : ℕ → TextId = λ i. record { 0 = i } in ap made (distinct n.0 m.0 text g h)

same_kind : (texts : List (List ℕ)) → AreDistinct texts → (kind : TokenKind) (text : List ℕ) (k l : Kind) → KindIs texts kind text k → KindIs texts kind text l → k ≡ l
same_kind texts distinct spelt.Name text k l a b = a.1 ∙ ap (λ n. kinds.Name n) (same_text texts distinct text a.0 b.0 a.2 b.2) ∙ sym b.1
same_kind texts distinct (spelt.Number value) text k l a b = a ∙ sym b
same_kind texts distinct spelt.Text text k l a b = a.1 ∙ ap (λ n. kinds.Text n) (same_text texts distinct _ a.0 b.0 a.2 b.2) ∙ sym b.1
same_kind texts distinct (spelt.Keyword word) text k l a b = a ∙ sym b
same_kind texts distinct (spelt.Symbol symbol) text k l a b = a ∙ sym b

same_token : (texts : List (List ℕ)) → AreDistinct texts → (item : Item) (t u : Token) → TokenIs texts item t → TokenIs texts item u → t ≡ u
same_token texts distinct item t u a b =
    let kind : t.kind ≡ u.kind = same_kind texts distinct item.kind item.text t.kind u.kind a.kind b.kind in
    let at : t.at ≡ u.at = a.at ∙ sym b.at in
    let by_kind : Kind → Token = λ k. record { kind = k; at = t.at } in
    let by_place : Place → Token = λ p. record { kind = u.kind; at = p } in
    ap by_kind kind ∙ ap by_place at

same_tokens : (texts : List (List ℕ)) → AreDistinct texts → (items : List Item) (ts us : List Token) → TokensAre texts items ts → TokensAre texts items us → ts ≡ us
same_tokens texts distinct [] [] [] a b = refl
same_tokens texts distinct [] [] (u ∷ us) a b = absurd b
same_tokens texts distinct [] (t ∷ ts) us a b = absurd a
same_tokens texts distinct (item ∷ items) [] us a b = absurd a
same_tokens texts distinct (item ∷ items) (t ∷ ts) [] a b = absurd b
same_tokens texts distinct (item ∷ items) (t ∷ ts) (u ∷ us) a b =
    ap (λ x. x ∷ ts) (same_token texts distinct item t u a.0 b.0) ∙ ap (λ xs. u ∷ xs) (same_tokens texts distinct items ts us a.1 b.1)

-- The tokens of bytes after known texts are one list, and so are the texts after them.
behind_distinct : (known texts : List (List ℕ)) (items : List Item) → AreDistinct known → texts ≡ texts_behind known items → AreDistinct texts
behind_distinct known texts items distinct e = let P : List (List ℕ) → Type 0 = AreDistinct in subst P (sym e) (texts_behind-distinct known items distinct)

one_list : (known texts others : List (List ℕ)) (items more : List Item) (ts us : List Token) → AreDistinct known → items ≡ more → texts ≡ texts_behind known items → others ≡ texts_behind known more
    → TokensAre texts items ts → TokensAre others more us → (texts ≡ others) × (ts ≡ us)
one_list known texts others items more ts us distinct same e f a b =
    let texts_are : texts ≡ others = e ∙ ap (texts_behind known) same ∙ sym f in
    let P : List Item → Type 0 = λ is. TokensAre texts is us in
    let Q : List (List ℕ) → Type 0 = λ xs. TokensAre xs more us in
    (texts_are, same_tokens texts (behind_distinct known texts items distinct e) items ts us a (subst P (sym same) (subst Q (sym texts_are) b)))

whole_once : (file : ℕ) (bytes : List ℕ) (known texts others : List (List ℕ)) (ts us : List Token) → AreDistinct known → IsWholeFile file bytes known texts ts → IsWholeFile file bytes known others us → (texts ≡ others) × (ts ≡ us)
whole_once file bytes known texts others ts us distinct a b =
    one_list known texts others a.items b.items ts us distinct (tokens_unique file bytes a.items b.items a.spelt b.spelt) a.texts_are b.texts_are a.tokens_are b.tokens_are

up_to_once : (file : ℕ) (bytes : List ℕ) (known texts others : List (List ℕ)) (ts us : List Token) (refusal other : Refusal) → AreDistinct known → IsFileUpTo file bytes known texts ts refusal → IsFileUpTo file bytes known others us other → (ts ≡ us) × (refusal ≡ other)
up_to_once file bytes known texts others ts us refusal other distinct a b =
    let same = refusals_unique file bytes a.items b.items refusal other a.spelt b.spelt in
    let fronts = one_list known texts others a.items b.items a.front b.front distinct same.0 a.texts_are b.texts_are a.tokens_are b.tokens_are in
    let bad : Refusal → List Token = λ r. record { kind = kinds.Bad; at = r.at } ∷ [] in
    (a.whole ∙ ap (λ xs. xs ++ bad refusal) fronts.1 ∙ ap (λ r. b.front ++ bad r) same.1 ∙ sym b.whole, same.1)

lexed_once : (file : ℕ) (bytes : List ℕ) (known texts others : List (List ℕ)) (ts us : List Token) (r s : Option Refusal) → AreDistinct known → AreTokensOf file bytes known texts ts r → AreTokensOf file bytes known others us s → (ts ≡ us) × (r ≡ s)
lexed_once file bytes known texts others ts us None None distinct a b = ((whole_once file bytes known texts others ts us distinct a b).1, refl)
lexed_once file bytes known texts others ts us None (Some s) distinct a b = absurd (never_both file bytes a.items b.items s a.spelt b.spelt)
lexed_once file bytes known texts others ts us (Some r) None distinct a b = absurd (never_both file bytes b.items a.items r b.spelt a.spelt)
lexed_once file bytes known texts others ts us (Some r) (Some s) distinct a b = let same = up_to_once file bytes known texts others ts us r s distinct a b in (same.0, ap Some same.1)

-- What stands before the token that passes the number of tokens isn't refused.
split_before : (front back f b : List Token) → front ++ back ≡ f ++ b → length front < length f → (u : Token) × (rest more : List Token) × (back ≡ u ∷ rest) × (f ≡ front ++ u ∷ more)
split_before front back [] b e h = absurd (omega (arith, h))
split_before [] back (y ∷ f) b e h = (y, f ++ b, f, e, refl)
split_before (x ∷ front) back (y ∷ f) b e h =
    let head : x ≡ y = cc e in
    let tail : front ++ back ≡ f ++ b = cc e in
    let rest = split_before front back f b tail (omega (arith, h)) in
    let cut : f ≡ front ++ rest.0 ∷ rest.2 = rest.4 in
    let longer : y ∷ f ≡ x ∷ (front ++ rest.0 ∷ rest.2) = cc (head, cut) in
    (rest.0, rest.1, rest.2, rest.3, longer)

front_lives : (front : List Token) (u : Token) (more whole : List Token) → whole ≡ front ++ u ∷ more → IsLive whole → IsLive (front ++ u ∷ [])
front_lives front u more whole e l =
    let P : List Token → Type 0 = λ ts. IsFile ts in
    (more ++ l.0, subst P (ap (λ ts. ts ++ l.0) e ∙ append_assoc front (u ∷ more) l.0 ∙ sym (append_assoc front (u ∷ []) (more ++ l.0))) l.1)

count_more : (b : Bool) (n : ℕ) (front : List Token) (t : Token) → count_from b n (front ++ t ∷ []) ≡ counted (break_from b front) (count_from b n front) t.kind
count_more b n [] t = refl
count_more b n (u ∷ front) t = count_more (is_break u.kind) (counted b n u.kind) front t

count_begins : (b : Bool) (n : ℕ) (t : Kind) → b ≡ true → begins_statement t ≡ true → counted b n t ≡ suc n
count_begins true n (kinds.Name x) e h = refl
count_begins true n kinds.This e h = refl
count_begins true n kinds.Args e h = refl
count_begins true n kinds.Var e h = refl
count_begins true n kinds.If e h = refl
count_begins true n kinds.While e h = refl
count_begins true n kinds.Break e h = refl
count_begins true n kinds.Continue e h = refl
count_begins true n kinds.Return e h = refl
count_begins true n kinds.Yield e h = refl
count_begins true n kinds.Assert e h = refl
count_begins true n _ e h = absurd (cc h)
count_begins false n t e h = absurd (cc e)

module _ (most : ℕ) (tokens : List Token) (last : ℕ) (p : IsPastTokens most tokens last) where
  wrong_or_past : (rule : Rule) (left : ℕ) (h : IsRefused tokens rule left) → length tokens ≤ most + left → IsFirstWrong h.front h.back → ⊥
  wrong_or_past rule left h few wrong =
      let whole : h.front ++ h.back ≡ (p.front ++ p.t ∷ []) ++ p.back = sym h.parts ∙ p.parts ∙ sym (append_assoc p.front (p.t ∷ []) p.back) in
      let parts : length tokens ≡ length (h.front ++ h.back) = ap length h.parts in
      let sum = length-append h.front h.back in
      let longer = length-append p.front (p.t ∷ []) in
      let most_is = p.most_is in
      let place = h.place in
      let cut = split_before h.front h.back (p.front ++ p.t ∷ []) p.back whole (omega (arith, parts, sum, longer, most_is, place, few)) in
      let P : List Token → Type 0 = λ back. IsFirstWrong h.front back in
      let there : IsFirstWrong h.front (cut.0 ∷ cut.1) = subst P cut.3 wrong in
      there (front_lives h.front cut.0 cut.2 (p.front ++ p.t ∷ []) cut.4 p.live)

  cut_before : (rule : Rule) (left : ℕ) (h : IsRefused tokens rule left) → length tokens < most + left → (u : Token) × (rest more : List Token) × (h.back ≡ u ∷ rest) × (p.front ≡ h.front ++ u ∷ more)
  cut_before rule left h few =
      let parts : length tokens ≡ length (h.front ++ h.back) = ap length h.parts in
      let sum = length-append h.front h.back in
      let most_is = p.most_is in
      let place = h.place in
      split_before h.front h.back p.front (p.t ∷ p.back) (sym h.parts ∙ p.parts) (omega (arith, parts, sum, most_is, place, few))

  deep_or_past : (rule : Rule) (left : ℕ) (h : IsRefused tokens rule left) → length tokens < most + left → IsTooDeep h.front h.back → ⊥
  deep_or_past rule left h few deep =
      let cut = cut_before rule left h few in
      let P : List Token → Type 0 = λ back. IsTooDeep h.front back in
      let there : IsTooDeep h.front (cut.0 ∷ cut.1) = subst P cut.3 deep in
      let below : opened h.front < 48 + closed h.front = p.within.shallow h.front cut.0 cut.2 cut.4 there.1 in
      let all : opened h.front ≡ 48 + closed h.front = there.2 in
      omega (arith, below, all)

  long_or_past : (rule : Rule) (left : ℕ) (h : IsRefused tokens rule left) → length tokens < most + left → IsTooLong h.front h.back → ⊥
  long_or_past rule left h few long =
      let cut = cut_before rule left h few in
      let P : List Token → Type 0 = λ back. IsTooLong h.front back in
      let there : IsTooLong h.front (cut.0 ∷ cut.1) = subst P cut.3 long in
      let u = cut.0 in
      let below : begun (h.front ++ u ∷ []) ≤ 4096 = p.within.short (h.front ++ u ∷ []) cut.2 (cut.4 ∙ sym (append_assoc h.front (u ∷ []) cut.2)) in
      let more : begun (h.front ++ u ∷ []) ≡ suc (begun h.front) = count_more false 0 h.front u ∙ count_begins (ends_in_break h.front) (begun h.front) u.kind there.1 there.2 in
      let all : begun h.front ≡ 4096 = there.3 in
      omega (arith, below, more, all)

-- Tokens are wrong for one reason at one place: before the token that passes their number, or there.
abbrev Before : (most : ℕ) → List Token → Rule → (left : ℕ) → Type 0
Before most tokens rule left = IsRefused tokens rule left × ((last : ℕ) → IsPastTokens most tokens last → ⊥)

before_or_past : (most : ℕ) (tokens : List Token) (rule : Rule) (left : ℕ) → IsWrong most tokens rule left → Before most tokens rule left ⊎ ((rule ≡ L3) × IsPastTokens most tokens left)
before_or_past most tokens S5 left w = inl (w.0, λ last p. wrong_or_past most tokens last p S5 left w.0 w.1 w.0.reason.0)
before_or_past most tokens S6 left w = inl (w.0, λ last p. wrong_or_past most tokens last p S6 left w.0 w.1 w.0.reason.0)
before_or_past most tokens L3 left w = inr (refl, w)
before_or_past most tokens L4 left w = inl (w.0, λ last p. deep_or_past most tokens last p L4 left w.0 w.1 w.0.reason)
before_or_past most tokens L5 left w = inl (w.0, λ last p. long_or_past most tokens last p L5 left w.0 w.1 w.0.reason)
before_or_past most tokens _ left w = absurd w

past_count : (most : ℕ) (tokens : List Token) (left : ℕ) → IsPastTokens most tokens left → (length tokens ≡ most + left) × (0 < left)
past_count most tokens left p =
    let parts : length tokens ≡ length (p.front ++ p.t ∷ p.back) = ap length p.parts in
    let sum = length-append p.front (p.t ∷ p.back) in
    let most_is = p.most_is in
    let place = p.place in
    (omega (arith, parts, sum, most_is, place), omega (arith, place))

wrong_once : (most : ℕ) (tokens : List Token) (rule other : Rule) (left last : ℕ) → IsWrong most tokens rule left → IsWrong most tokens other last → (rule ≡ other) × (left ≡ last)
wrong_once most tokens rule other left last a b = by_case (before_or_past most tokens rule left a) (before_or_past most tokens other last b)
  where
    by_case : Before most tokens rule left ⊎ ((rule ≡ L3) × IsPastTokens most tokens left) → Before most tokens other last ⊎ ((other ≡ L3) × IsPastTokens most tokens last) → (rule ≡ other) × (left ≡ last)
    by_case (inl x) (inl y) = refused-once tokens rule other left last x.0 y.0
    by_case (inl x) (inr y) = absurd (x.1 last y.1)
    by_case (inr x) (inl y) = absurd (y.1 left x.1)
    by_case (inr x) (inr y) =
        let one = past_count most tokens left x.1 in
        let two = past_count most tokens last y.1 in
        let first : length tokens ≡ most + left = one.0 in
        let second : length tokens ≡ most + last = two.0 in
        (x.0 ∙ sym y.0, omega (arith, first, second))

accepted_or_wrong : (most : ℕ) (tokens : List Token) (trees : List DeclTree) (rule : Rule) (left : ℕ) → IsAccepted tokens trees → length tokens ≤ most → IsWrong most tokens rule left → ⊥
accepted_or_wrong most tokens trees rule left accepted few w = by_case (before_or_past most tokens rule left w)
  where
    by_case : Before most tokens rule left ⊎ ((rule ≡ L3) × IsPastTokens most tokens left) → ⊥
    by_case (inl x) = accepted-refused tokens trees rule left accepted x.0
    by_case (inr x) =
        let count = past_count most tokens left x.1 in
        let all : length tokens ≡ most + left = count.0 in
        let some : 0 < left = count.1 in
        omega (arith, few, all, some)

-- One file.
module _ (number most : ℕ) (known : List (List ℕ)) (bytes : List ℕ) (distinct : AreDistinct known) where
  read_once : (texts others : List (List ℕ)) (ts us : List Token) (trees more : List DeclTree) → ReadsFile number most known bytes texts ts trees → ReadsFile number most known bytes others us more
      → (texts ≡ others) × (ts ≡ us) × (trees ≡ more)
  read_once texts others ts us trees more a b =
      let same = whole_once number bytes known texts others ts us distinct a.tokens_are b.tokens_are in
      let P : List Token → Type 0 = λ xs. IsAccepted xs more in
      (same.0, same.1, accepted-once ts trees more a.accepted (subst P (sym same.1) b.accepted))

  read_or_refused : (texts : List (List ℕ)) (ts : List Token) (trees : List DeclTree) (refusal : Refusal) → ReadsFile number most known bytes texts ts trees → RefusesFile number most known bytes refusal → ⊥
  read_or_refused texts ts trees refusal a b =
      let same = lexed_once number bytes known texts b.texts ts b.tokens None b.bytes_refused distinct a.tokens_are b.tokens_are in
      let P : List Token → Type 0 = λ xs. IsWrong most xs b.rule b.left in
      accepted_or_wrong most ts trees b.rule b.left a.accepted a.few (subst P (sym same.0) b.wrong)

  refused_once : (refusal other : Refusal) → RefusesFile number most known bytes refusal → RefusesFile number most known bytes other → refusal ≡ other
  refused_once refusal other a b =
      let end = behind_bytes (first_place number) bytes in
      let same = lexed_once number bytes known a.texts b.texts a.tokens b.tokens a.bytes_refused b.bytes_refused distinct a.tokens_are b.tokens_are in
      let P : List Token → Type 0 = λ xs. IsWrong most xs b.rule b.left in
      let wrong = wrong_once most a.tokens a.rule b.rule a.left b.left a.wrong (subst P (sym same.0) b.wrong) in
      a.is ∙ ap (λ ts. refusal_of end ts a.bytes_refused a.rule a.left) same.0 ∙ ap (λ r. refusal_of end b.tokens r a.rule a.left) same.1
      ∙ ap (λ r. refusal_of end b.tokens b.bytes_refused r a.left) wrong.0 ∙ ap (refusal_of end b.tokens b.bytes_refused b.rule) wrong.1 ∙ sym b.is

  read_distinct : (texts : List (List ℕ)) (ts : List Token) (trees : List DeclTree) → ReadsFile number most known bytes texts ts trees → AreDistinct texts
  read_distinct texts ts trees a = behind_distinct known texts a.tokens_are.items distinct a.tokens_are.texts_are

-- Files in order.
pub files_distinct : (number most : ℕ) (known : List (List ℕ)) (files : List (List ℕ)) (texts : List (List ℕ)) (trees : List DeclTree) → AreDistinct known → ReadsFiles number most known files texts trees → AreDistinct texts
files_distinct number most known [] texts trees distinct a = let P : List (List ℕ) → Type 0 = AreDistinct in subst P (sym a.0) distinct
files_distinct number most known (bytes ∷ files) texts trees distinct a =
    files_distinct (number + 1) (most - length a.1) a.0 files texts a.3 (read_distinct number most known bytes distinct a.0 a.1 a.2 a.4) a.5

-- The files after one that is read in one way.
reads_there : (number most : ℕ) (files : List (List ℕ)) (between other : List (List ℕ)) (ts us : List Token) (texts : List (List ℕ)) (trees : List DeclTree) → between ≡ other → ts ≡ us → ReadsFiles number (most - length us) other files texts trees → ReadsFiles number (most - length ts) between files texts trees
reads_there number most files between other ts us texts trees e f h =
    let P : List (List ℕ) → Type 0 = λ known. ReadsFiles number (most - length ts) known files texts trees in
    let Q : List Token → Type 0 = λ xs. ReadsFiles number (most - length xs) other files texts trees in
    subst P (sym e) (subst Q (sym f) h)

refuses_there : (number most : ℕ) (files : List (List ℕ)) (between other : List (List ℕ)) (ts us : List Token) (refusal : Refusal) → between ≡ other → ts ≡ us → RefusesFiles number (most - length us) other files refusal → RefusesFiles number (most - length ts) between files refusal
refuses_there number most files between other ts us refusal e f h =
    let P : List (List ℕ) → Type 0 = λ known. RefusesFiles number (most - length ts) known files refusal in
    let Q : List Token → Type 0 = λ xs. RefusesFiles number (most - length xs) other files refusal in
    subst P (sym e) (subst Q (sym f) h)

files_once : (number most : ℕ) (known : List (List ℕ)) (files : List (List ℕ)) (texts others : List (List ℕ)) (trees more : List DeclTree) → AreDistinct known → ReadsFiles number most known files texts trees → ReadsFiles number most known files others more → (texts ≡ others) × (trees ≡ more)
files_once number most known [] texts others trees more distinct a b = (a.0 ∙ sym b.0, a.1 ∙ sym b.1)
files_once number most known (bytes ∷ files) texts others trees more distinct a b =
    let same = read_once number most known bytes distinct a.0 b.0 a.1 b.1 a.2 b.2 a.4 b.4 in
    let rest = files_once (number + 1) (most - length a.1) a.0 files texts others a.3 b.3 (read_distinct number most known bytes distinct a.0 a.1 a.2 a.4) a.5 (reads_there (number + 1) most files a.0 b.0 a.1 b.1 others b.3 same.0 same.1 b.5) in
    (rest.0, a.6 ∙ ap (λ ds. ds ++ a.3) same.2 ∙ ap (λ ds. b.2 ++ ds) rest.1 ∙ sym b.6)

files_read_or_refused : (number most : ℕ) (known : List (List ℕ)) (files : List (List ℕ)) (texts : List (List ℕ)) (trees : List DeclTree) (refusal : Refusal) → AreDistinct known → ReadsFiles number most known files texts trees → RefusesFiles number most known files refusal → ⊥
files_read_or_refused number most known [] texts trees refusal distinct a b = b
files_read_or_refused number most known (bytes ∷ files) texts trees refusal distinct a (inl b) = read_or_refused number most known bytes distinct a.0 a.1 a.2 refusal a.4 b
files_read_or_refused number most known (bytes ∷ files) texts trees refusal distinct a (inr b) =
    let same = read_once number most known bytes distinct a.0 b.0 a.1 b.1 a.2 b.2 a.4 b.3 in
    files_read_or_refused (number + 1) (most - length a.1) a.0 files texts a.3 refusal (read_distinct number most known bytes distinct a.0 a.1 a.2 a.4) a.5 (refuses_there (number + 1) most files a.0 b.0 a.1 b.1 refusal same.0 same.1 b.4)

files_refused_once : (number most : ℕ) (known : List (List ℕ)) (files : List (List ℕ)) (refusal other : Refusal) → AreDistinct known → RefusesFiles number most known files refusal → RefusesFiles number most known files other → refusal ≡ other
files_refused_once number most known [] refusal other distinct a b = absurd a
files_refused_once number most known (bytes ∷ files) refusal other distinct (inl a) (inl b) = refused_once number most known bytes distinct refusal other a b
files_refused_once number most known (bytes ∷ files) refusal other distinct (inl a) (inr b) = absurd (read_or_refused number most known bytes distinct b.0 b.1 b.2 refusal b.3 a)
files_refused_once number most known (bytes ∷ files) refusal other distinct (inr a) (inl b) = absurd (read_or_refused number most known bytes distinct a.0 a.1 a.2 other a.3 b)
files_refused_once number most known (bytes ∷ files) refusal other distinct (inr a) (inr b) =
    let same = read_once number most known bytes distinct a.0 b.0 a.1 b.1 a.2 b.2 a.3 b.3 in
    files_refused_once (number + 1) (most - length a.1) a.0 files refusal other (read_distinct number most known bytes distinct a.0 a.1 a.2 a.3) a.4 (refuses_there (number + 1) most files a.0 b.0 a.1 b.1 other same.0 same.1 b.4)

-- A package.
pub trees_unique : TreesAreUnique
trees_unique name files p q a b =
    let same = files_once 0 262144 [] files p.texts q.texts (decls_of p) (decls_of q) no_texts-distinct a.read b.read in
    record { name = a.named ∙ sym b.named; texts = same.0; decls = same.1 }

pub one_refusal : RefusalsAreUnique
one_refusal files refusal other a b = files_refused_once 0 262144 [] files refusal other no_texts-distinct a b

pub read_or_misread : law.NeverBoth
read_or_misread name files p refusal a b = files_read_or_refused 0 262144 [] files p.texts (decls_of p) refusal no_texts-distinct a.read b

pub parsed_distinct : TextsAreDistinct
parsed_distinct name files p a = files_distinct 0 262144 [] files p.texts (decls_of p) no_texts-distinct a.read
