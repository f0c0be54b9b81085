-- The printed text of statements and items spells their tokens.
use Rattle.std.proofs.Common.{◌≡◌, ℕ, zero, suc, ◌+◌, Bool, true, false, List, [], ◌∷◌, ◌++◌, Option, None, Some, IfSome, refl, sym, subst, append_assoc, codes}
use Rattle.std.specs.Prelude.{⊤}
use Rattle.c_text.specs.declared.kinds.CNumber.{CNumber}
use Rattle.c_text.specs.declared.kinds.Linkage.{Linkage}
use Rattle.c_text.specs.declared.kinds.Linkage.TheVariants.{External, Static, StaticInline}
use Rattle.c_text.specs.declared.kinds.Otherwise.{Otherwise}
use Rattle.c_text.specs.declared.kinds.Otherwise.TheVariants as else_is
use Rattle.c_text.specs.declared.tokens.CWord.{CWord}
use Rattle.c_text.specs.declared.tokens.CWord.TheVariants as word
use Rattle.c_text.specs.declared.tokens.CMark.TheVariants as mark
use Rattle.c_text.specs.CTree.{TypeTree, ExprTree, Args, Code, finish, nested, empty, assign, call, jump, branch, repeat, select, leave, case_label, default_label, name_label, FieldKind, plain, inside, FieldTree, ParamTree, LocalTree, ItemTree, struct_item, text_item, function_item}
use Rattle.c_text.specs.CSpelling.{CToken, keyword, named, quoted, marked, word_bytes, literal_bytes, IsGap, IsWhole}
use Rattle.c_text.specs.CGrammar.{expr_tokens, args_tokens, value_tokens, target_tokens, code_tokens, else_tokens, field_kind_tokens, count_tokens, fields_tokens, param_tokens, more_params_tokens, params_tokens, initial_tokens, locals_tokens, linkage_tokens, result_tokens, item_tokens, unit_tokens, IsExpr, IsArgs, IsTarget, IsCode, FitsElse, is_finish, AreLocals, IsItem, IsUnit, IsTextOf}
use Rattle.c_text.specs.CLayout.{expr_text, args_text, type_text, value_text, target_text, call_text, indented, braced, tested, else_text, placed, code_text, field_kind_text, count_text, fields_text, param_text, more_params_text, params_text, initial_text, locals_text, linkage_bytes, result_text, item_text, items_text, text_of}
use Rattle.c_text.proofs.Spelled.{Spelt, IsClear, spell, spell_gap, gap_append, by_bytes, open_paren, close_paren, comma, name_at, word_at, literal_at, mark_at, type_spells, expr_spells, args_spell}

indented_gap : (depth : ℕ) → IsGap (indented depth)
indented_gap zero = refl
indented_gap (suc depth) = gap_append (indented depth) (codes "  ") (indented_gap depth) refl

line_feed : (ts : List CToken) (bytes : List ℕ) → Spelt ts bytes → Spelt ts (10 ∷ bytes)
line_feed ts bytes s = spell_gap (10 ∷ []) ts bytes refl s

space : (ts : List CToken) (bytes : List ℕ) → Spelt ts bytes → Spelt ts (32 ∷ bytes)
space ts bytes s = spell_gap (32 ∷ []) ts bytes refl s

semicolon : (ts : List CToken) (bytes : List ℕ) → Spelt ts bytes → Spelt (marked mark.Semicolon ∷ ts) (59 ∷ bytes)
semicolon ts bytes s = mark_at mark.Semicolon (λ b. refl) ts bytes s

colon : (ts : List CToken) (bytes : List ℕ) → Spelt ts bytes → Spelt (marked mark.Colon ∷ ts) (58 ∷ bytes)
colon ts bytes s = mark_at mark.Colon (λ b. refl) ts bytes s

equals : (ts : List CToken) (bytes : List ℕ) → Spelt ts bytes → Spelt (marked mark.Assign ∷ ts) (32 ∷ 61 ∷ 32 ∷ bytes)
equals ts bytes s = space _ (61 ∷ 32 ∷ bytes) (spell (marked mark.Assign) ts (32 ∷ bytes) refl (space ts bytes s))

whole_quoted : (text bytes : List ℕ) → IsWhole (quoted text) bytes
whole_quoted text [] = tt
whole_quoted text (b ∷ bs) = refl

quoted_at : (text : List ℕ) (ts : List CToken) (bytes : List ℕ) → Spelt ts bytes → Spelt (quoted text ∷ ts) (34 ∷ (text ++ 34 ∷ bytes))
quoted_at text ts bytes s = by_bytes _ (34 ∷ (text ++ 34 ∷ bytes)) ((34 ∷ (text ++ 34 ∷ [])) ++ bytes) (simp append_assoc) (spell (quoted text) ts bytes (whole_quoted text bytes) s)

-- Tokens with a text, before any others.
abbrev Forms : (List CToken → List CToken) → List ℕ → Type 0
Forms tokens text = (ts : List CToken) (bytes : List ℕ) → Spelt ts bytes → Spelt (tokens ts) (text ++ bytes)

placed_spells : (depth : ℕ) (line rest : List ℕ) (ts : List CToken) (bytes : List ℕ) → Spelt ts (line ++ 10 ∷ (rest ++ bytes)) → Spelt ts (placed false depth line rest ++ bytes)
placed_spells depth line rest ts bytes s =
    by_bytes ts (placed false depth line rest ++ bytes) (indented depth ++ (line ++ 10 ∷ (rest ++ bytes))) (simp append_assoc)
    (spell_gap (indented depth) ts (line ++ 10 ∷ (rest ++ bytes)) (indented_gap depth) s)

braced_spells : (tokens : List CToken → List CToken) (inner : List ℕ) (depth : ℕ) → Forms tokens inner → (ts : List CToken) (bytes : List ℕ) → Spelt ts bytes → Spelt (marked mark.OpenBrace ∷ tokens (marked mark.CloseBrace ∷ ts)) ((codes "{\n" ++ inner ++ indented depth ++ codes "}") ++ bytes)
braced_spells tokens inner depth forms ts bytes s =
    by_bytes _ ((codes "{\n" ++ inner ++ indented depth ++ codes "}") ++ bytes) (123 ∷ 10 ∷ (inner ++ (indented depth ++ 125 ∷ bytes))) (simp append_assoc)
    (mark_at mark.OpenBrace (λ b. refl) _ (10 ∷ (inner ++ (indented depth ++ 125 ∷ bytes))) (line_feed _ (inner ++ (indented depth ++ 125 ∷ bytes))
    (forms (marked mark.CloseBrace ∷ ts) (indented depth ++ 125 ∷ bytes) (spell_gap (indented depth) (marked mark.CloseBrace ∷ ts) (125 ∷ bytes) (indented_gap depth) (mark_at mark.CloseBrace (λ b. refl) ts bytes s)))))

tested_bytes : (w e b rest : List ℕ) → ((w ++ codes " (") ++ e ++ codes ") " ++ b) ++ rest ≡ w ++ 32 ∷ 40 ∷ (e ++ 41 ∷ 32 ∷ (b ++ rest))
tested_bytes w e b rest = simp append_assoc

tested_spells : (w : CWord) (e : ExprTree) → IsExpr e → (tokens : List CToken → List CToken) (inner : List ℕ) (depth : ℕ) → Forms tokens inner → (ts : List CToken) (bytes : List ℕ) → Spelt ts bytes → Spelt (keyword w ∷ marked mark.OpenParen ∷ expr_tokens e (marked mark.CloseParen ∷ marked mark.OpenBrace ∷ tokens (marked mark.CloseBrace ∷ ts))) (((word_bytes w ++ codes " (") ++ expr_text e ++ codes ") " ++ (codes "{\n" ++ inner ++ indented depth ++ codes "}")) ++ bytes)
tested_spells w e h tokens inner depth forms ts bytes s =
    let block = braced_spells tokens inner depth forms ts bytes s in
    let block_bytes = (codes "{\n" ++ inner ++ indented depth ++ codes "}") ++ bytes in
    by_bytes _ (((word_bytes w ++ codes " (") ++ expr_text e ++ codes ") " ++ (codes "{\n" ++ inner ++ indented depth ++ codes "}")) ++ bytes) (word_bytes w ++ 32 ∷ 40 ∷ (expr_text e ++ 41 ∷ 32 ∷ block_bytes)) (tested_bytes (word_bytes w) (expr_text e) (codes "{\n" ++ inner ++ indented depth ++ codes "}") bytes)
    (word_at w _ (32 ∷ 40 ∷ (expr_text e ++ 41 ∷ 32 ∷ block_bytes)) refl (space _ (40 ∷ (expr_text e ++ 41 ∷ 32 ∷ block_bytes)) (open_paren _ (expr_text e ++ 41 ∷ 32 ∷ block_bytes)
    (expr_spells e h _ (41 ∷ 32 ∷ block_bytes) refl (close_paren _ (32 ∷ block_bytes) (space _ block_bytes block))))))

call_spells : (function : List ℕ) (given : Args) → IsArgs given → (ts : List CToken) (bytes : List ℕ) → Spelt ts bytes → Spelt (named function ∷ marked mark.OpenParen ∷ args_tokens given (marked mark.CloseParen ∷ ts)) (call_text function given ++ bytes)
call_spells function given h ts bytes s =
    by_bytes _ (call_text function given ++ bytes) (function ++ 40 ∷ (args_text given ++ 41 ∷ bytes)) (simp append_assoc)
    (name_at function _ (40 ∷ (args_text given ++ 41 ∷ bytes)) refl (open_paren _ (args_text given ++ 41 ∷ bytes) (args_spell given h _ bytes (close_paren ts bytes s))))

target_spells : (target : Option ExprTree) → IfSome target IsTarget → (ts : List CToken) (bytes : List ℕ) → Spelt ts bytes → Spelt (target_tokens target ts) (target_text target ++ bytes)
target_spells None h ts bytes s = s
target_spells (Some e) h ts bytes s =
    by_bytes _ (target_text (Some e) ++ bytes) (expr_text e ++ 32 ∷ 61 ∷ 32 ∷ bytes) (simp append_assoc)
    (expr_spells e h.1 _ (32 ∷ 61 ∷ 32 ∷ bytes) refl (equals ts bytes s))

value_spells : (value : Option ExprTree) → IfSome value IsExpr → (ts : List CToken) (bytes : List ℕ) → Spelt ts bytes → Spelt (value_tokens value (marked mark.Semicolon ∷ ts)) (value_text value ++ 59 ∷ bytes)
value_spells None h ts bytes s = semicolon ts bytes s
value_spells (Some e) h ts bytes s = space _ (expr_text e ++ 59 ∷ bytes) (expr_spells e h _ (59 ∷ bytes) refl (semicolon ts bytes s))

clear_value : (value : Option ExprTree) (bytes : List ℕ) → IsClear (value_text value ++ 59 ∷ bytes)
clear_value None bytes = refl
clear_value (Some e) bytes = refl

-- Only an `if` without a rest stands alone.
abbrev StandsAlone : Bool → Code → Type 0
StandsAlone false c = ⊤
StandsAlone true (branch test body otherwise other rest) = is_finish rest ≡ true
StandsAlone true _ = ⊥

else_alone : (other : Code) → FitsElse else_is.If other → StandsAlone true other
else_alone finish h = h
else_alone (nested inner rest) h = h
else_alone (empty rest) h = h
else_alone (assign target value rest) h = h
else_alone (call target function given rest) h = h
else_alone (jump label rest) h = h
else_alone (branch test body otherwise other rest) h = h
else_alone (repeat test body rest) h = h
else_alone (select on body rest) h = h
else_alone (leave value rest) h = h
else_alone (case_label n rest) h = h
else_alone (default_label rest) h = h
else_alone (name_label name rest) h = h

else_spells : (otherwise : Otherwise) (other : Code) (depth : ℕ) → FitsElse otherwise other → ((alone : Bool) (d : ℕ) → StandsAlone alone other → Forms (code_tokens other) (code_text other alone d)) → (ts : List CToken) (bytes : List ℕ) → Spelt ts bytes → Spelt (else_tokens otherwise (code_tokens other) ts) (else_text otherwise (code_text other) depth ++ bytes)
else_spells else_is.Nothing other depth h forms ts bytes s = s
else_spells else_is.Block other depth h forms ts bytes s =
    let block = braced_spells (code_tokens other) (code_text other false (depth + 1)) depth (forms false (depth + 1) tt) ts bytes s in
    by_bytes _ (else_text else_is.Block (code_text other) depth ++ bytes) (32 ∷ (codes "else" ++ 32 ∷ (braced (code_text other) depth ++ bytes))) refl
    (space _ (codes "else" ++ 32 ∷ (braced (code_text other) depth ++ bytes)) (word_at word.Else _ (32 ∷ (braced (code_text other) depth ++ bytes)) refl (space _ (braced (code_text other) depth ++ bytes) block)))
else_spells else_is.If other depth h forms ts bytes s =
    by_bytes _ (else_text else_is.If (code_text other) depth ++ bytes) (32 ∷ (codes "else" ++ 32 ∷ (code_text other true depth ++ bytes))) refl
    (space _ (codes "else" ++ 32 ∷ (code_text other true depth ++ bytes)) (word_at word.Else _ (32 ∷ (code_text other true depth ++ bytes)) refl (space _ (code_text other true depth ++ bytes) (forms true depth (else_alone other h) ts bytes s))))

branch_line : (test : ExprTree) (body : Code) (otherwise : Otherwise) (other : Code) (depth : ℕ) → IsExpr test → Forms (code_tokens body) (code_text body false (depth + 1)) → FitsElse otherwise other → ((alone : Bool) (d : ℕ) → StandsAlone alone other → Forms (code_tokens other) (code_text other alone d)) → (ts : List CToken) (bytes : List ℕ) → Spelt ts bytes → Spelt (keyword word.If ∷ marked mark.OpenParen ∷ expr_tokens test (marked mark.CloseParen ∷ marked mark.OpenBrace ∷ code_tokens body (marked mark.CloseBrace ∷ else_tokens otherwise (code_tokens other) ts))) ((tested (codes "if (") test (code_text body) depth ++ else_text otherwise (code_text other) depth) ++ bytes)
branch_line test body otherwise other depth h forms fits others ts bytes s =
    by_bytes _ _ (tested (codes "if (") test (code_text body) depth ++ (else_text otherwise (code_text other) depth ++ bytes)) (append_assoc (tested (codes "if (") test (code_text body) depth) (else_text otherwise (code_text other) depth) bytes)
    (tested_spells word.If test h (code_tokens body) (code_text body false (depth + 1)) depth forms (else_tokens otherwise (code_tokens other) ts) (else_text otherwise (code_text other) depth ++ bytes) (else_spells otherwise other depth fits others ts bytes s))

no_rest : (rest : Code) → is_finish rest ≡ true → (ts : List CToken) → code_tokens rest ts ≡ ts
no_rest finish h ts = refl
no_rest (nested inner rest) h ts = absurd (cc (h))
no_rest (empty rest) h ts = absurd (cc (h))
no_rest (assign target value rest) h ts = absurd (cc (h))
no_rest (call target function given rest) h ts = absurd (cc (h))
no_rest (jump label rest) h ts = absurd (cc (h))
no_rest (branch test body otherwise other rest) h ts = absurd (cc (h))
no_rest (repeat test body rest) h ts = absurd (cc (h))
no_rest (select on body rest) h ts = absurd (cc (h))
no_rest (leave value rest) h ts = absurd (cc (h))
no_rest (case_label n rest) h ts = absurd (cc (h))
no_rest (default_label rest) h ts = absurd (cc (h))
no_rest (name_label name rest) h ts = absurd (cc (h))

pub code_spells : (c : Code) → IsCode c → (alone : Bool) (depth : ℕ) → StandsAlone alone c → (ts : List CToken) (bytes : List ℕ) → Spelt ts bytes → Spelt (code_tokens c ts) (code_text c alone depth ++ bytes)
code_spells finish h false depth stands ts bytes s = s
code_spells (nested inner rest) h false depth stands ts bytes s =
    placed_spells depth (braced (code_text inner) depth) (code_text rest false depth) _ bytes
    (braced_spells (code_tokens inner) (code_text inner false (depth + 1)) depth (code_spells inner h.0 false (depth + 1) tt) _ (10 ∷ (code_text rest false depth ++ bytes)) (line_feed _ (code_text rest false depth ++ bytes) (code_spells rest h.1 false depth tt ts bytes s)))
code_spells (empty rest) h false depth stands ts bytes s =
    placed_spells depth (codes ";") (code_text rest false depth) _ bytes
    (semicolon _ (10 ∷ (code_text rest false depth ++ bytes)) (line_feed _ (code_text rest false depth ++ bytes) (code_spells rest h false depth tt ts bytes s)))
code_spells (assign target value rest) h false depth stands ts bytes s =
    let tail = 10 ∷ (code_text rest false depth ++ bytes) in
    placed_spells depth (expr_text target ++ codes " = " ++ expr_text value ++ codes ";") (code_text rest false depth) _ bytes
    (by_bytes _ ((expr_text target ++ codes " = " ++ expr_text value ++ codes ";") ++ tail) (expr_text target ++ 32 ∷ 61 ∷ 32 ∷ (expr_text value ++ 59 ∷ tail)) (simp append_assoc)
    (expr_spells target h.0.1 _ (32 ∷ 61 ∷ 32 ∷ (expr_text value ++ 59 ∷ tail)) refl (equals _ (expr_text value ++ 59 ∷ tail) (expr_spells value h.1 _ (59 ∷ tail) refl (semicolon _ tail (line_feed _ (code_text rest false depth ++ bytes) (code_spells rest h.2 false depth tt ts bytes s)))))))
code_spells (call target function given rest) h false depth stands ts bytes s =
    let tail = 10 ∷ (code_text rest false depth ++ bytes) in
    placed_spells depth (target_text target ++ call_text function given ++ codes ";") (code_text rest false depth) _ bytes
    (by_bytes _ ((target_text target ++ call_text function given ++ codes ";") ++ tail) (target_text target ++ (call_text function given ++ 59 ∷ tail)) (simp append_assoc)
    (target_spells target h.0 _ (call_text function given ++ 59 ∷ tail) (call_spells function given h.2 _ (59 ∷ tail) (semicolon _ tail (line_feed _ (code_text rest false depth ++ bytes) (code_spells rest h.3 false depth tt ts bytes s))))))
code_spells (jump label rest) h false depth stands ts bytes s =
    let tail = 10 ∷ (code_text rest false depth ++ bytes) in
    placed_spells depth (codes "goto " ++ label ++ codes ";") (code_text rest false depth) _ bytes
    (by_bytes _ ((codes "goto " ++ label ++ codes ";") ++ tail) (codes "goto" ++ 32 ∷ (label ++ 59 ∷ tail)) (simp append_assoc)
    (word_at word.Goto _ (32 ∷ (label ++ 59 ∷ tail)) refl (space _ (label ++ 59 ∷ tail) (name_at label _ (59 ∷ tail) refl (semicolon _ tail (line_feed _ (code_text rest false depth ++ bytes) (code_spells rest h.1 false depth tt ts bytes s)))))))
code_spells (branch test body otherwise other rest) h false depth stands ts bytes s =
    placed_spells depth (tested (codes "if (") test (code_text body) depth ++ else_text otherwise (code_text other) depth) (code_text rest false depth) _ bytes
    (branch_line test body otherwise other depth h.0 (code_spells body h.1 false (depth + 1) tt) h.2 (code_spells other h.3) _ (10 ∷ (code_text rest false depth ++ bytes)) (line_feed _ (code_text rest false depth ++ bytes) (code_spells rest h.4 false depth tt ts bytes s)))
code_spells (branch test body otherwise other rest) h true depth stands ts bytes s =
    branch_line test body otherwise other depth h.0 (code_spells body h.1 false (depth + 1) tt) h.2 (code_spells other h.3) _ bytes (subst (λ (us : List CToken). Spelt us bytes) (sym (no_rest rest stands ts)) s)
code_spells (repeat test body rest) h false depth stands ts bytes s =
    placed_spells depth (tested (codes "while (") test (code_text body) depth) (code_text rest false depth) _ bytes
    (tested_spells word.While test h.0 (code_tokens body) (code_text body false (depth + 1)) depth (code_spells body h.1 false (depth + 1) tt) _ (10 ∷ (code_text rest false depth ++ bytes)) (line_feed _ (code_text rest false depth ++ bytes) (code_spells rest h.2 false depth tt ts bytes s)))
code_spells (select on body rest) h false depth stands ts bytes s =
    placed_spells depth (tested (codes "switch (") on (code_text body) depth) (code_text rest false depth) _ bytes
    (tested_spells word.Switch on h.0 (code_tokens body) (code_text body false (depth + 1)) depth (code_spells body h.1 false (depth + 1) tt) _ (10 ∷ (code_text rest false depth ++ bytes)) (line_feed _ (code_text rest false depth ++ bytes) (code_spells rest h.2 false depth tt ts bytes s)))
code_spells (leave value rest) h false depth stands ts bytes s =
    let tail = 10 ∷ (code_text rest false depth ++ bytes) in
    placed_spells depth (codes "return" ++ value_text value ++ codes ";") (code_text rest false depth) _ bytes
    (by_bytes _ ((codes "return" ++ value_text value ++ codes ";") ++ tail) (codes "return" ++ (value_text value ++ 59 ∷ tail)) (simp append_assoc)
    (word_at word.Return _ (value_text value ++ 59 ∷ tail) (clear_value value tail) (value_spells value h.0 _ tail (line_feed _ (code_text rest false depth ++ bytes) (code_spells rest h.1 false depth tt ts bytes s)))))
code_spells (case_label n rest) h false depth stands ts bytes s =
    let tail = 10 ∷ (code_text rest false depth ++ bytes) in
    placed_spells depth (codes "case " ++ literal_bytes n ++ codes ":") (code_text rest false depth) _ bytes
    (by_bytes _ ((codes "case " ++ literal_bytes n ++ codes ":") ++ tail) (codes "case" ++ 32 ∷ (literal_bytes n ++ 58 ∷ tail)) (simp append_assoc)
    (word_at word.Case _ (32 ∷ (literal_bytes n ++ 58 ∷ tail)) refl (space _ (literal_bytes n ++ 58 ∷ tail) (literal_at n _ (58 ∷ tail) refl (colon _ tail (line_feed _ (code_text rest false depth ++ bytes) (code_spells rest h.2 false depth tt ts bytes s)))))))
code_spells (default_label rest) h false depth stands ts bytes s =
    let tail = 10 ∷ (code_text rest false depth ++ bytes) in
    placed_spells depth (codes "default:") (code_text rest false depth) _ bytes
    (word_at word.Default _ (58 ∷ tail) refl (colon _ tail (line_feed _ (code_text rest false depth ++ bytes) (code_spells rest h.1 false depth tt ts bytes s))))
code_spells (name_label name rest) h false depth stands ts bytes s =
    let tail = 10 ∷ (code_text rest false depth ++ bytes) in
    placed_spells depth (name ++ codes ":") (code_text rest false depth) _ bytes
    (by_bytes _ ((name ++ codes ":") ++ tail) (name ++ 58 ∷ tail) (simp append_assoc)
    (name_at name _ (58 ∷ tail) refl (colon _ tail (line_feed _ (code_text rest false depth ++ bytes) (code_spells rest h.2 false depth tt ts bytes s)))))
code_spells finish h true depth stands ts bytes s = absurd stands
code_spells (nested inner rest) h true depth stands ts bytes s = absurd stands
code_spells (empty rest) h true depth stands ts bytes s = absurd stands
code_spells (assign target value rest) h true depth stands ts bytes s = absurd stands
code_spells (call target function given rest) h true depth stands ts bytes s = absurd stands
code_spells (jump label rest) h true depth stands ts bytes s = absurd stands
code_spells (repeat test body rest) h true depth stands ts bytes s = absurd stands
code_spells (select on body rest) h true depth stands ts bytes s = absurd stands
code_spells (leave value rest) h true depth stands ts bytes s = absurd stands
code_spells (case_label n rest) h true depth stands ts bytes s = absurd stands
code_spells (default_label rest) h true depth stands ts bytes s = absurd stands
code_spells (name_label name rest) h true depth stands ts bytes s = absurd stands

field_kind_spells : (k : FieldKind) (ts : List CToken) (bytes : List ℕ) → IsClear bytes → Spelt ts bytes → Spelt (field_kind_tokens k ts) (field_kind_text k ++ bytes)
field_kind_spells (plain t) ts bytes clear s = type_spells t ts bytes clear s
field_kind_spells (inside name) ts bytes clear s = name_at name ts bytes clear s

count_spells : (n : Option CNumber) (ts : List CToken) (bytes : List ℕ) → Spelt ts (59 ∷ bytes) → Spelt (count_tokens n ts) (count_text n ++ 59 ∷ bytes)
count_spells None ts bytes s = s
count_spells (Some n) ts bytes s =
    by_bytes _ (count_text (Some n) ++ 59 ∷ bytes) (91 ∷ (literal_bytes n ++ 93 ∷ 59 ∷ bytes)) (simp append_assoc)
    (mark_at mark.OpenBracket (λ b. refl) _ (literal_bytes n ++ 93 ∷ 59 ∷ bytes) (literal_at n _ (93 ∷ 59 ∷ bytes) refl (mark_at mark.CloseBracket (λ b. refl) ts (59 ∷ bytes) s)))

clear_count : (n : Option CNumber) (bytes : List ℕ) → IsClear (count_text n ++ 59 ∷ bytes)
clear_count None bytes = refl
clear_count (Some n) bytes = refl

fields_spell : (fs : List FieldTree) (ts : List CToken) (bytes : List ℕ) → Spelt ts bytes → Spelt (fields_tokens fs ts) (fields_text fs ++ bytes)
fields_spell [] ts bytes s = s
fields_spell (f ∷ fs) ts bytes s =
    let tail = 10 ∷ (fields_text fs ++ bytes) in
    by_bytes _ (fields_text (f ∷ fs) ++ bytes) (codes "  " ++ (field_kind_text f.kind ++ 32 ∷ (f.name ++ (count_text f.count ++ 59 ∷ tail)))) (simp append_assoc)
    (spell_gap (codes "  ") _ (field_kind_text f.kind ++ 32 ∷ (f.name ++ (count_text f.count ++ 59 ∷ tail))) refl
    (field_kind_spells f.kind _ (32 ∷ (f.name ++ (count_text f.count ++ 59 ∷ tail))) refl (space _ (f.name ++ (count_text f.count ++ 59 ∷ tail))
    (name_at f.name _ (count_text f.count ++ 59 ∷ tail) (clear_count f.count tail) (count_spells f.count _ tail (semicolon _ tail (line_feed _ (fields_text fs ++ bytes) (fields_spell fs ts bytes s))))))))

param_spells : (p : ParamTree) (ts : List CToken) (bytes : List ℕ) → IsClear bytes → Spelt ts bytes → Spelt (param_tokens p ts) (param_text p ++ bytes)
param_spells p ts bytes clear s =
    by_bytes _ (param_text p ++ bytes) (type_text p.kind ++ 32 ∷ (p.name ++ bytes)) (simp append_assoc)
    (type_spells p.kind _ (32 ∷ (p.name ++ bytes)) refl (space _ (p.name ++ bytes) (name_at p.name ts bytes clear s)))

clear_params : (ps : List ParamTree) (bytes : List ℕ) → IsClear (more_params_text ps ++ 41 ∷ bytes)
clear_params [] bytes = refl
clear_params (p ∷ ps) bytes = refl

more_params_spell : (ps : List ParamTree) (ts : List CToken) (bytes : List ℕ) → Spelt ts (41 ∷ bytes) → Spelt (more_params_tokens ps ts) (more_params_text ps ++ 41 ∷ bytes)
more_params_spell [] ts bytes s = s
more_params_spell (p ∷ ps) ts bytes s =
    by_bytes _ (more_params_text (p ∷ ps) ++ 41 ∷ bytes) (44 ∷ 32 ∷ (param_text p ++ (more_params_text ps ++ 41 ∷ bytes))) (simp append_assoc)
    (comma _ (param_text p ++ (more_params_text ps ++ 41 ∷ bytes)) (param_spells p _ (more_params_text ps ++ 41 ∷ bytes) (clear_params ps bytes) (more_params_spell ps ts bytes s)))

params_spell : (ps : List ParamTree) (ts : List CToken) (bytes : List ℕ) → Spelt ts (41 ∷ bytes) → Spelt (params_tokens ps ts) (params_text ps ++ 41 ∷ bytes)
params_spell [] ts bytes s = word_at word.Void ts (41 ∷ bytes) refl s
params_spell (p ∷ ps) ts bytes s =
    by_bytes _ (params_text (p ∷ ps) ++ 41 ∷ bytes) (param_text p ++ (more_params_text ps ++ 41 ∷ bytes)) (simp append_assoc)
    (param_spells p _ (more_params_text ps ++ 41 ∷ bytes) (clear_params ps bytes) (more_params_spell ps ts bytes s))

initial_spells : (v : Option ExprTree) → IfSome v IsExpr → (ts : List CToken) (bytes : List ℕ) → Spelt ts (59 ∷ bytes) → Spelt (initial_tokens v ts) (initial_text v ++ 59 ∷ bytes)
initial_spells None h ts bytes s = s
initial_spells (Some e) h ts bytes s = equals _ (expr_text e ++ 59 ∷ bytes) (expr_spells e h ts (59 ∷ bytes) refl s)

clear_initial : (v : Option ExprTree) (bytes : List ℕ) → IsClear (initial_text v ++ 59 ∷ bytes)
clear_initial None bytes = refl
clear_initial (Some e) bytes = refl

locals_spell : (ls : List LocalTree) → AreLocals ls → (ts : List CToken) (bytes : List ℕ) → Spelt ts bytes → Spelt (locals_tokens ls ts) (locals_text ls ++ bytes)
locals_spell [] h ts bytes s = s
locals_spell (l ∷ ls) h ts bytes s =
    let tail = 10 ∷ (locals_text ls ++ bytes) in
    by_bytes _ (locals_text (l ∷ ls) ++ bytes) (codes "  " ++ (type_text l.kind ++ 32 ∷ (l.name ++ (initial_text l.initial ++ 59 ∷ tail)))) (simp append_assoc)
    (spell_gap (codes "  ") _ (type_text l.kind ++ 32 ∷ (l.name ++ (initial_text l.initial ++ 59 ∷ tail))) refl
    (type_spells l.kind _ (32 ∷ (l.name ++ (initial_text l.initial ++ 59 ∷ tail))) refl (space _ (l.name ++ (initial_text l.initial ++ 59 ∷ tail))
    (name_at l.name _ (initial_text l.initial ++ 59 ∷ tail) (clear_initial l.initial tail) (initial_spells l.initial h.2 _ tail (semicolon _ tail (line_feed _ (locals_text ls ++ bytes) (locals_spell ls h.3 ts bytes s))))))))

linkage_spells : (l : Linkage) (ts : List CToken) (bytes : List ℕ) → Spelt ts bytes → Spelt (linkage_tokens l ts) (linkage_bytes l ++ bytes)
linkage_spells External ts bytes s = line_feed ts bytes s
linkage_spells Static ts bytes s = line_feed _ (codes "static" ++ 32 ∷ bytes) (word_at word.Static ts (32 ∷ bytes) refl (space ts bytes s))
linkage_spells StaticInline ts bytes s = line_feed _ (codes "static inline" ++ 32 ∷ bytes) (word_at word.Static _ (32 ∷ (codes "inline" ++ 32 ∷ bytes)) refl (space _ (codes "inline" ++ 32 ∷ bytes) (word_at word.Inline ts (32 ∷ bytes) refl (space ts bytes s))))

result_spells : (t : Option TypeTree) (ts : List CToken) (bytes : List ℕ) → IsClear bytes → Spelt ts bytes → Spelt (result_tokens t ts) (result_text t ++ bytes)
result_spells None ts bytes clear s = word_at word.Void ts bytes clear s
result_spells (Some t) ts bytes clear s = type_spells t ts bytes clear s

item_spells : (i : ItemTree) → IsItem i → (ts : List CToken) (bytes : List ℕ) → Spelt ts bytes → Spelt (item_tokens i ts) (item_text i ++ bytes)
item_spells (struct_item fields name) h ts bytes s =
    let tail = 125 ∷ 32 ∷ (name ++ 59 ∷ 10 ∷ bytes) in
    by_bytes _ (item_text (struct_item fields name) ++ bytes) (10 ∷ (codes "typedef" ++ 32 ∷ (codes "struct" ++ 32 ∷ 123 ∷ 10 ∷ (fields_text fields ++ tail)))) (simp append_assoc)
    (line_feed _ (codes "typedef" ++ 32 ∷ (codes "struct" ++ 32 ∷ 123 ∷ 10 ∷ (fields_text fields ++ tail)))
    (word_at word.Typedef _ (32 ∷ (codes "struct" ++ 32 ∷ 123 ∷ 10 ∷ (fields_text fields ++ tail))) refl (space _ (codes "struct" ++ 32 ∷ 123 ∷ 10 ∷ (fields_text fields ++ tail))
    (word_at word.Struct _ (32 ∷ 123 ∷ 10 ∷ (fields_text fields ++ tail)) refl (space _ (123 ∷ 10 ∷ (fields_text fields ++ tail))
    (mark_at mark.OpenBrace (λ b. refl) _ (10 ∷ (fields_text fields ++ tail)) (line_feed _ (fields_text fields ++ tail)
    (fields_spell fields _ tail (mark_at mark.CloseBrace (λ b. refl) _ (32 ∷ (name ++ 59 ∷ 10 ∷ bytes)) (space _ (name ++ 59 ∷ 10 ∷ bytes) (name_at name _ (59 ∷ 10 ∷ bytes) refl (semicolon ts (10 ∷ bytes) (line_feed ts bytes s)))))))))))))
item_spells (text_item name text) h ts bytes s =
    let quote = 34 ∷ (text ++ 34 ∷ 59 ∷ 10 ∷ bytes) in
    by_bytes _ (item_text (text_item name text) ++ bytes) (10 ∷ (codes "static" ++ 32 ∷ (codes "const" ++ 32 ∷ (codes "char" ++ 32 ∷ (name ++ 91 ∷ 93 ∷ 32 ∷ 61 ∷ 32 ∷ quote))))) (simp append_assoc)
    (line_feed _ (codes "static" ++ 32 ∷ (codes "const" ++ 32 ∷ (codes "char" ++ 32 ∷ (name ++ 91 ∷ 93 ∷ 32 ∷ 61 ∷ 32 ∷ quote))))
    (word_at word.Static _ (32 ∷ (codes "const" ++ 32 ∷ (codes "char" ++ 32 ∷ (name ++ 91 ∷ 93 ∷ 32 ∷ 61 ∷ 32 ∷ quote)))) refl (space _ (codes "const" ++ 32 ∷ (codes "char" ++ 32 ∷ (name ++ 91 ∷ 93 ∷ 32 ∷ 61 ∷ 32 ∷ quote)))
    (word_at word.Const _ (32 ∷ (codes "char" ++ 32 ∷ (name ++ 91 ∷ 93 ∷ 32 ∷ 61 ∷ 32 ∷ quote))) refl (space _ (codes "char" ++ 32 ∷ (name ++ 91 ∷ 93 ∷ 32 ∷ 61 ∷ 32 ∷ quote))
    (word_at word.Char _ (32 ∷ (name ++ 91 ∷ 93 ∷ 32 ∷ 61 ∷ 32 ∷ quote)) refl (space _ (name ++ 91 ∷ 93 ∷ 32 ∷ 61 ∷ 32 ∷ quote)
    (name_at name _ (91 ∷ 93 ∷ 32 ∷ 61 ∷ 32 ∷ quote) refl (mark_at mark.OpenBracket (λ b. refl) _ (93 ∷ 32 ∷ 61 ∷ 32 ∷ quote) (mark_at mark.CloseBracket (λ b. refl) _ (32 ∷ 61 ∷ 32 ∷ quote)
    (equals _ quote (quoted_at text _ (59 ∷ 10 ∷ bytes) (semicolon ts (10 ∷ bytes) (line_feed ts bytes s))))))))))))))
item_spells (function_item linkage result_type name params locals body) h ts bytes s =
    let tail = 10 ∷ (locals_text locals ++ (code_text body false 1 ++ 125 ∷ 10 ∷ bytes)) in
    by_bytes _ (item_text (function_item linkage result_type name params locals body) ++ bytes) (linkage_bytes linkage ++ (result_text result_type ++ 32 ∷ (name ++ 40 ∷ (params_text params ++ 41 ∷ 32 ∷ 123 ∷ tail)))) (simp append_assoc)
    (linkage_spells linkage _ (result_text result_type ++ 32 ∷ (name ++ 40 ∷ (params_text params ++ 41 ∷ 32 ∷ 123 ∷ tail)))
    (result_spells result_type _ (32 ∷ (name ++ 40 ∷ (params_text params ++ 41 ∷ 32 ∷ 123 ∷ tail))) refl (space _ (name ++ 40 ∷ (params_text params ++ 41 ∷ 32 ∷ 123 ∷ tail))
    (name_at name _ (40 ∷ (params_text params ++ 41 ∷ 32 ∷ 123 ∷ tail)) refl (open_paren _ (params_text params ++ 41 ∷ 32 ∷ 123 ∷ tail)
    (params_spell params _ (32 ∷ 123 ∷ tail) (close_paren _ (32 ∷ 123 ∷ tail) (space _ (123 ∷ tail) (mark_at mark.OpenBrace (λ b. refl) _ tail (line_feed _ (locals_text locals ++ (code_text body false 1 ++ 125 ∷ 10 ∷ bytes))
    (locals_spell locals h.3 _ (code_text body false 1 ++ 125 ∷ 10 ∷ bytes) (code_spells body h.4 false 1 tt _ (125 ∷ 10 ∷ bytes) (mark_at mark.CloseBrace (λ b. refl) ts (10 ∷ bytes) (line_feed ts bytes s))))))))))))))

items_spell : (items : List ItemTree) → IsUnit items → Spelt (unit_tokens items) (items_text items)
items_spell [] h = record { is = refl }
items_spell (item ∷ items) h = item_spells item h.0 (unit_tokens items) (items_text items) (items_spell items h.1)

-- The printed text of a tree of the grammar is a text of it.
pub printed : (items : List ItemTree) → IsUnit items → IsTextOf (text_of items) items
unfolding text_of
printed items lawful = record { lawful = lawful; body = items_text items; begins = refl; spelt = (items_spell items lawful).is }
