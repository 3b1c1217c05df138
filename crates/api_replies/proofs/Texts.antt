-- The texts of replies as they are put together.
use Rattle.std.proofs.Common.{ℕ, ◌≡◌, ◌∙◌, ◌+◌, ◌++◌, List, [], ◌∷◌, ◌-◌, suc, map, drop, take, length, refl, sym, ap, append_assoc, arith, length-append}
use Rattle.std.specs.Prelude.{codes, decimal, false}
use Rattle.std.proofs.lemmas.List.{drop-map}
use Rattle.std.proofs.Math.Seq.{drop-append-add}
use Rattle.json.specs.Print.{escape_byte, quoted}
use Rattle.serde_json.specs.Written.{items_text}
use Rattle.cluster.specs.declared.entry.Entry.{Entry}
use Rattle.cluster.specs.declared.object.Target.{Target}
use Rattle.cluster.specs.declared.state.State.{State}
use Rattle.journal_text.specs.Journal.{clean, event_text, line_of}
use Rattle.api_routes.specs.declared.kind.Kind.{Kind}
use Rattle.api_replies.specs.declared.reason.Reason.{Reason}
use Rattle.api_replies.specs.Answers.{failure_body, outcome_body, success_body}
use Rattle.api_replies.specs.Lists.{items, list_body, list_head, list_tail, list_word, version_word}
use Rattle.api_replies.specs.Messages.{line_text, refusal_text}
use Rattle.api_replies.specs.Reasons.{code_of, word_of}

pub success_is : success_body ≡ codes "{\"apiVersion\":\"v1\",\"kind\":\"Status\",\"metadata\":{},\"status\":\"Success\"}"
unfolding success_body escape_byte
success_is = refl

pub outcome_is : (line : List ℕ) → outcome_body line ≡ codes "{\"apiVersion\":\"dra.replay/v1\",\"end\":" ++ quoted line ++ codes ",\"kind\":\"Outcome\"}"
unfolding outcome_body escape_byte
outcome_is line = refl

regroup : (a b c d e f g : List ℕ) → a ++ (b ++ (c ++ (d ++ (e ++ (f ++ g))))) ≡ a ++ b ++ c ++ d ++ e ++ f ++ g
regroup a b c d e f g = simp append_assoc

failure_parts : (reason : Reason) (message : List ℕ) → failure_body reason message
    ≡ codes "{\"apiVersion\":\"v1\",\"code\":" ++ (decimal (code_of reason) ++ (codes ",\"kind\":\"Status\",\"message\":" ++ (quoted message
    ++ (codes ",\"metadata\":{},\"reason\":" ++ (quoted (word_of reason) ++ codes ",\"status\":\"Failure\"}")))))
unfolding failure_body escape_byte
failure_parts reason message = refl

pub failure_is : (reason : Reason) (message : List ℕ) → failure_body reason message
    ≡ codes "{\"apiVersion\":\"v1\",\"code\":" ++ decimal (code_of reason) ++ codes ",\"kind\":\"Status\",\"message\":" ++ quoted message
    ++ codes ",\"metadata\":{},\"reason\":" ++ quoted (word_of reason) ++ codes ",\"status\":\"Failure\"}"
failure_is reason message = failure_parts reason message ∙
    regroup (codes "{\"apiVersion\":\"v1\",\"code\":") (decimal (code_of reason)) (codes ",\"kind\":\"Status\",\"message\":") (quoted message)
    (codes ",\"metadata\":{},\"reason\":") (quoted (word_of reason)) (codes ",\"status\":\"Failure\"}")

join_list : (a b c i d e f g h : List ℕ) → a ++ (b ++ (c ++ (i ++ (d ++ (e ++ (f ++ ((g ++ h) ++ h))))))) ≡ (a ++ b ++ c) ++ i ++ (d ++ e ++ f ++ g ++ (h ++ h))
join_list a b c i d e f g h = simp append_assoc

list_parts : (s : State) (place : ℕ) (kind : Kind) (ts : List Target) → list_body s place kind ts
    ≡ codes "{\"apiVersion\":" ++ (quoted (version_word kind) ++ (codes ",\"items\":[" ++ (items_text false (items s ts)
    ++ (codes ",\"kind\":" ++ (quoted (list_word kind) ++ (codes ",\"metadata\":{\"resourceVersion\":" ++ ((quoted (decimal place) ++ codes "}") ++ codes "}")))))))
unfolding list_body escape_byte
list_parts s place kind ts = refl

pub list_is : (s : State) (place : ℕ) (kind : Kind) (ts : List Target) → list_body s place kind ts
    ≡ list_head kind ++ items_text false (items s ts) ++ list_tail place kind
list_is s place kind ts = list_parts s place kind ts ∙
    join_list (codes "{\"apiVersion\":") (quoted (version_word kind)) (codes ",\"items\":[") (items_text false (items s ts)) (codes ",\"kind\":")
    (quoted (list_word kind)) (codes ",\"metadata\":{\"resourceVersion\":") (quoted (decimal place)) (codes "}")

take_before : (xs : List ℕ) (x : ℕ) → take (length (xs ++ x ∷ []) - 1) (xs ++ x ∷ []) ≡ xs
take_before [] x = refl
take_before (y ∷ ys) x =
    let count : length (ys ++ x ∷ []) ≡ length ys + 1 = length-append ys (x ∷ []) in
    let most : suc (length (ys ++ x ∷ [])) - 1 ≡ suc (length (ys ++ x ∷ []) - 1) = omega (arith, count) in
    ap (λ (k : ℕ). take k (y ∷ (ys ++ x ∷ []))) most ∙ ap (λ (l : List ℕ). y ∷ l) (take_before ys x)

-- a line without its LF
pub line_is : (place : ℕ) (e : Entry) (n : ℕ) (line : List ℕ) → line ≡ line_of place e → n ≡ length line → take (n - 1) line ≡ line_text place e
unfolding line_of
line_is place e n line is count =
    ap (λ (k : ℕ). take (k - 1) line) count ∙ ap (λ (l : List ℕ). take (length l - 1) l) is ∙ take_before (line_text place e) 10

regrouped : (a b c d : List ℕ) → a ++ (b ++ (c ++ d)) ≡ a ++ b ++ c ++ d
regrouped a b c d = simp append_assoc

split : (a b c d e : List ℕ) → a ++ (b ++ (c ++ (d ++ e))) ≡ (a ++ b) ++ (c ++ (d ++ e))
split a b c d e = simp append_assoc

behind : (f : ℕ → ℕ) (p e : List ℕ) (n k : ℕ) → k ≡ length p + n → drop k (map f (p ++ e)) ≡ map f (drop n e)
behind f p e n k is = drop-map f k (p ++ e) ∙ ap (λ (j : ℕ). map f (drop j (p ++ e))) is ∙ ap (λ (l : List ℕ). map f l) (drop-append-add p e n)

counted : (a b c d before : List ℕ) (n count : ℕ) → before ≡ a ++ (b ++ (c ++ d)) → count ≡ length before → n ≡ length d → count ≡ length (a ++ b ++ c) + n
counted a b c d before n count is number last =
    let whole : length (a ++ (b ++ (c ++ d))) ≡ length (a ++ b ++ c ++ d) = ap length (regrouped a b c d) in
    let parts : length (a ++ b ++ c ++ d) ≡ length (a ++ b ++ c) + length d = length-append (a ++ b ++ c) d in
    number ∙ ap length is ∙ whole ∙ parts ∙ ap (λ (k : ℕ). length (a ++ b ++ c) + k) (sym last)

-- what is behind the word `denied` in a line
pub refusal_is : (place : ℕ) (e : Entry) (text before : List ℕ) (count : ℕ) → text ≡ line_text place e
    → before ≡ decimal place ++ (codes " " ++ (decimal e.job ++ codes " denied ")) → count ≡ length before → drop count text ≡ refusal_text e.event
unfolding refusal_text
refusal_is place e text before count is prefix number =
    let line : text ≡ map clean (decimal place ++ codes " " ++ decimal e.job ++ codes " " ++ event_text e.event) = is in
    let at : count ≡ length (decimal place ++ codes " " ++ decimal e.job ++ codes " ") + 7 =
    counted (decimal place ++ codes " ") (decimal e.job) (codes " ") (codes "denied ") before 7 count (prefix ∙ split (decimal place) (codes " ") (decimal e.job) (codes " ") (codes "denied ")) number refl in
    ap (λ (l : List ℕ). drop count l) line ∙ behind clean (decimal place ++ codes " " ++ decimal e.job ++ codes " ") (event_text e.event) 7 count at

pub outcome_made : (line b0 b1 b2 b3 : List ℕ) → b0 ≡ [] → b1 ≡ b0 ++ codes "{\"apiVersion\":\"dra.replay/v1\",\"end\":" → b2 ≡ b1 ++ quoted line
    → b3 ≡ b2 ++ codes ",\"kind\":\"Outcome\"}" → b3 ≡ outcome_body line
outcome_made line b0 b1 b2 b3 i0 i1 i2 i3 =
    i3 ∙ ap (λ (l : List ℕ). l ++ codes ",\"kind\":\"Outcome\"}") (i2 ∙ ap (λ (l : List ℕ). l ++ quoted line)
    (i1 ∙ ap (λ (l : List ℕ). l ++ codes "{\"apiVersion\":\"dra.replay/v1\",\"end\":") i0)) ∙ sym (outcome_is line)

regathered : (a b c d e f g : List ℕ) → (a ++ (b ++ c)) ++ d ++ e ++ f ++ g ≡ a ++ b ++ c ++ d ++ e ++ f ++ g
regathered a b c d e f g = simp append_assoc

gathered : (a b c d e f g b0 b1 b2 b3 b4 : List ℕ) → b0 ≡ a ++ (b ++ c) → b1 ≡ b0 ++ d → b2 ≡ b1 ++ e → b3 ≡ b2 ++ f → b4 ≡ b3 ++ g → b4 ≡ a ++ b ++ c ++ d ++ e ++ f ++ g
gathered a b c d e f g b0 b1 b2 b3 b4 i0 i1 i2 i3 i4 =
    i4 ∙ ap (λ (l : List ℕ). l ++ g) (i3 ∙ ap (λ (l : List ℕ). l ++ f) (i2 ∙ ap (λ (l : List ℕ). l ++ e) (i1 ∙ ap (λ (l : List ℕ). l ++ d) i0))) ∙ regathered a b c d e f g

pub failure_made : (reason : Reason) (message b0 b1 b2 b3 b4 : List ℕ) → b0 ≡ codes "{\"apiVersion\":\"v1\",\"code\":" ++ (decimal (code_of reason) ++ codes ",\"kind\":\"Status\",\"message\":")
    → b1 ≡ b0 ++ quoted message → b2 ≡ b1 ++ codes ",\"metadata\":{},\"reason\":" → b3 ≡ b2 ++ quoted (word_of reason) → b4 ≡ b3 ++ codes ",\"status\":\"Failure\"}"
    → b4 ≡ failure_body reason message
failure_made reason message b0 b1 b2 b3 b4 i0 i1 i2 i3 i4 =
    gathered (codes "{\"apiVersion\":\"v1\",\"code\":") (decimal (code_of reason)) (codes ",\"kind\":\"Status\",\"message\":") (quoted message)
    (codes ",\"metadata\":{},\"reason\":") (quoted (word_of reason)) (codes ",\"status\":\"Failure\"}") b0 b1 b2 b3 b4 i0 i1 i2 i3 i4
    ∙ sym (failure_is reason message)
