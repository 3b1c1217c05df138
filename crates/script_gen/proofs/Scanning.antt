-- How the texts of documents are scanned.
use Rattle.std.proofs.Common.{ℕ, suc, ◌≡◌, ◌∙◌, ◌<◌, ◌≤◌, ◌+◌, ◌^◌, ◌++◌, List, [], ◌∷◌, Bool, true, false, not, ◌&&◌, eqb, length, length-append, append_assoc, refl, sym, ap, subst, arith}
use Rattle.std.specs.Prelude.{codes, decimal}
use Rattle.std.specs.Str.Parse.{AllDigits}
use Rattle.std.proofs.lemmas.Bool.{ne_eqb}
use Rattle.std.proofs.lemmas.Fmt.{decimal_is_IsNumeral, length-decimal-le}
use Rattle.std.proofs.lemmas.Str.Parse.{digit_at}
use Rattle.doc_split.specs.declared.place.Place.TheVariants.{Outside, Quoted}
use Rattle.doc_split.specs.declared.scan.Scan.{Scan}
use Rattle.script_gen.specs.Documents.{class_document, claim_document, device_items, node_document, pod_document, release_document, schedule_document, slice_document}
use Rattle.doc_split.specs.Scan.{begun, piece_length, scan_after, scan_behind}

-- no brace is open for the first time at the end
pub record Closing (s : Scan) (xs : List ℕ) : Type 0 where
  pub whole : piece_length s xs ≡ length xs
  pub over : (scan_behind s xs).depth ≡ 0

-- a brace is open behind each byte
abbrev pub stays : Scan → List ℕ → Bool
stays s [] = true
stays s (b ∷ bs) = not (eqb (scan_after s b).depth 0) && stays (scan_after s b) bs

-- the scan behind them
abbrev pub walked : Scan → List ℕ → Scan
walked s [] = s
walked s (b ∷ bs) = walked (scan_after s b) bs

left_true : (b c : Bool) → (not b && c) ≡ true → b ≡ false
left_true true c e = absurd (cc)
left_true false c e = refl

right_true : (b c : Bool) → (not b && c) ≡ true → c ≡ true
right_true true c e = absurd (cc)
right_true false c e = e

one_more : (s : Scan) (b : ℕ) (bs : List ℕ) → eqb (scan_after s b).depth 0 ≡ false → Closing (scan_after s b) bs → Closing s (b ∷ bs)
one_more s b bs deep h =
    let count : 1 + length bs ≡ suc (length bs) = omega arith in
    record { whole = rw deep (ap (λ n. 1 + n) h.whole ∙ count); over = rw deep h.over }

pub closing_on : (s : Scan) (xs ys : List ℕ) → stays s xs ≡ true → Closing (walked s xs) ys → Closing s (xs ++ ys)
closing_on s [] ys deep h = h
closing_on s (b ∷ bs) ys deep h =
    one_more s b (bs ++ ys) (left_true (eqb (scan_after s b).depth 0) (stays (scan_after s b) bs) deep)
    (closing_on (scan_after s b) bs ys (right_true (eqb (scan_after s b).depth 0) (stays (scan_after s b) bs) deep) h)

digits_kept : (s : Scan) → eqb s.depth 0 ≡ false → ((b : ℕ) → 47 < b → b < 58 → scan_after s b ≡ s) → (ds ys : List ℕ) → AllDigits 10 ds → Closing s ys → Closing s (ds ++ ys)
digits_kept s deep kept [] ys all h = h
digits_kept s deep kept (b ∷ bs) ys all h =
    let r = digit_at (b ∷ bs) 0 all (omega arith) in
    let same : scan_after s b ≡ s = kept b (omega (arith, r)) (omega (arith, r)) in
    one_more s b (bs ++ ys) (ap (λ (x : Scan). eqb x.depth 0) same ∙ deep)
    (subst (λ (x : Scan). Closing x (bs ++ ys)) (sym same) (digits_kept s deep kept bs ys all.1 h))

pub quoted_digits : (d n : ℕ) (ys : List ℕ) → eqb d 0 ≡ false → n < 2 ^ 64 → Closing (record { place = Quoted; depth = d }) ys → Closing (record { place = Quoted; depth = d }) (decimal n ++ ys)
quoted_digits d n ys deep small h =
    digits_kept (record { place = Quoted; depth = d }) deep
    (λ b low high. rw (ne_eqb b 34 (λ e. omega (arith, e, low)), ne_eqb b 92 (λ e. omega (arith, e, high))) refl)
    (decimal n) ys (decimal_is_IsNumeral n small).0.1 h

pub outside_digits : (d n : ℕ) (ys : List ℕ) → eqb d 0 ≡ false → n < 2 ^ 64 → Closing (record { place = Outside; depth = d }) ys → Closing (record { place = Outside; depth = d }) (decimal n ++ ys)
outside_digits d n ys deep small h =
    digits_kept (record { place = Outside; depth = d }) deep
    (λ b low high. rw (ne_eqb b 34 (λ e. omega (arith, e, low)), ne_eqb b 123 (λ e. omega (arith, e, high)), ne_eqb b 125 (λ e. omega (arith, e, high))) refl)
    (decimal n) ys (decimal_is_IsNumeral n small).0.1 h

-- ---- the texts of documents

-- a text that begins with a brace, is closed at its end, and isn't long
pub record Laid (text : List ℕ) : Type 0 where
  pub tail : List ℕ
  pub is : text ≡ 123 ∷ tail
  pub closes : Closing begun tail
  pub few : length text ≤ 700

four : (a b c d : List ℕ) → a ++ b ++ c ++ d ≡ a ++ (b ++ (c ++ d))
four a b c d = append_assoc (a ++ b) c d ∙ append_assoc a b (c ++ d)

eight : (a b c d e f g h : List ℕ) → a ++ b ++ c ++ d ++ e ++ f ++ g ++ h ≡ a ++ (b ++ (c ++ (d ++ (e ++ (f ++ (g ++ h))))))
eight a b c d e f g h =
    append_assoc (a ++ b ++ c ++ d ++ e ++ f) g h ∙ append_assoc (a ++ b ++ c ++ d ++ e) f (g ++ h) ∙ append_assoc (a ++ b ++ c ++ d) e (f ++ (g ++ h))
    ∙ append_assoc (a ++ b ++ c) d (e ++ (f ++ (g ++ h))) ∙ append_assoc (a ++ b) c (d ++ (e ++ (f ++ (g ++ h)))) ∙ append_assoc a b (c ++ (d ++ (e ++ (f ++ (g ++ h)))))

six_is : (i : ℕ) → slice_document i ≡ 123 ∷ (codes "\"apiVersion\":\"resource.k8s.io/v1\",\"kind\":\"ResourceSlice\",\"metadata\":{\"name\":\"s" ++ (decimal i ++ (codes "\"},\"spec\":{\"driver\":\"gpu.example.com\",\"nodeName\":\"n" ++ (decimal i ++ (codes "\",\"pool\":{\"name\":\"n" ++ (decimal i ++ codes "\",\"generation\":1,\"resourceSliceCount\":1},\"devices\":[{\"name\":\"d0\"},{\"name\":\"d1\"},{\"name\":\"d2\"},{\"name\":\"d3\"},{\"name\":\"d4\"},{\"name\":\"d5\"},{\"name\":\"d6\"},{\"name\":\"d7\"}]}}"))))))
six_is i = ap (λ (l : List ℕ). 123 ∷ ((codes "\"apiVersion\":\"resource.k8s.io/v1\",\"kind\":\"ResourceSlice\",\"metadata\":{\"name\":\"s") ++ l)) (eight (decimal i) (codes "\"},\"spec\":{\"driver\":\"gpu.example.com\",\"nodeName\":\"n") (decimal i) (codes "\",\"pool\":{\"name\":\"n") (decimal i) (codes "\",\"generation\":1,\"resourceSliceCount\":1},\"devices\":[") device_items (codes "]}}"))

pub node_laid : (i : ℕ) → i < 2 ^ 64 → Laid (node_document i)
node_laid i small = record {
  tail = codes "\"apiVersion\":\"v1\",\"kind\":\"Node\",\"metadata\":{\"name\":\"n" ++ (decimal i ++ (codes "\"}}"));
  is = refl;
  closes = closing_on (begun) (codes "\"apiVersion\":\"v1\",\"kind\":\"Node\",\"metadata\":{\"name\":\"n") (decimal i ++ (codes "\"}}")) refl (quoted_digits 2 i (codes "\"}}") refl small (record { whole = refl; over = refl }));
  few = omega (arith, length-append (codes "\"apiVersion\":\"v1\",\"kind\":\"Node\",\"metadata\":{\"name\":\"n") (decimal i ++ (codes "\"}}")), length-append (decimal i) (codes "\"}}"), length-decimal-le 20 i (omega arith) (omega (arith, small)) small);
}

pub class_laid : Laid (class_document)
class_laid = record {
  tail = codes "\"apiVersion\":\"resource.k8s.io/v1\",\"kind\":\"DeviceClass\",\"metadata\":{\"name\":\"gpu\"},\"spec\":{}}";
  is = refl;
  closes = record { whole = refl; over = refl };
  few = omega (arith);
}

pub slice_laid : (i : ℕ) → i < 2 ^ 64 → Laid (slice_document i)
slice_laid i small = record {
  tail = codes "\"apiVersion\":\"resource.k8s.io/v1\",\"kind\":\"ResourceSlice\",\"metadata\":{\"name\":\"s" ++ (decimal i ++ (codes "\"},\"spec\":{\"driver\":\"gpu.example.com\",\"nodeName\":\"n" ++ (decimal i ++ (codes "\",\"pool\":{\"name\":\"n" ++ (decimal i ++ (codes "\",\"generation\":1,\"resourceSliceCount\":1},\"devices\":[{\"name\":\"d0\"},{\"name\":\"d1\"},{\"name\":\"d2\"},{\"name\":\"d3\"},{\"name\":\"d4\"},{\"name\":\"d5\"},{\"name\":\"d6\"},{\"name\":\"d7\"}]}}"))))));
  is = six_is i;
  closes = closing_on (begun) (codes "\"apiVersion\":\"resource.k8s.io/v1\",\"kind\":\"ResourceSlice\",\"metadata\":{\"name\":\"s") (decimal i ++ (codes "\"},\"spec\":{\"driver\":\"gpu.example.com\",\"nodeName\":\"n" ++ (decimal i ++ (codes "\",\"pool\":{\"name\":\"n" ++ (decimal i ++ (codes "\",\"generation\":1,\"resourceSliceCount\":1},\"devices\":[{\"name\":\"d0\"},{\"name\":\"d1\"},{\"name\":\"d2\"},{\"name\":\"d3\"},{\"name\":\"d4\"},{\"name\":\"d5\"},{\"name\":\"d6\"},{\"name\":\"d7\"}]}}")))))) refl (quoted_digits 2 i (codes "\"},\"spec\":{\"driver\":\"gpu.example.com\",\"nodeName\":\"n" ++ (decimal i ++ (codes "\",\"pool\":{\"name\":\"n" ++ (decimal i ++ (codes "\",\"generation\":1,\"resourceSliceCount\":1},\"devices\":[{\"name\":\"d0\"},{\"name\":\"d1\"},{\"name\":\"d2\"},{\"name\":\"d3\"},{\"name\":\"d4\"},{\"name\":\"d5\"},{\"name\":\"d6\"},{\"name\":\"d7\"}]}}"))))) refl small (closing_on (record { place = Quoted; depth = 2 }) (codes "\"},\"spec\":{\"driver\":\"gpu.example.com\",\"nodeName\":\"n") (decimal i ++ (codes "\",\"pool\":{\"name\":\"n" ++ (decimal i ++ (codes "\",\"generation\":1,\"resourceSliceCount\":1},\"devices\":[{\"name\":\"d0\"},{\"name\":\"d1\"},{\"name\":\"d2\"},{\"name\":\"d3\"},{\"name\":\"d4\"},{\"name\":\"d5\"},{\"name\":\"d6\"},{\"name\":\"d7\"}]}}")))) refl (quoted_digits 2 i (codes "\",\"pool\":{\"name\":\"n" ++ (decimal i ++ (codes "\",\"generation\":1,\"resourceSliceCount\":1},\"devices\":[{\"name\":\"d0\"},{\"name\":\"d1\"},{\"name\":\"d2\"},{\"name\":\"d3\"},{\"name\":\"d4\"},{\"name\":\"d5\"},{\"name\":\"d6\"},{\"name\":\"d7\"}]}}"))) refl small (closing_on (record { place = Quoted; depth = 2 }) (codes "\",\"pool\":{\"name\":\"n") (decimal i ++ (codes "\",\"generation\":1,\"resourceSliceCount\":1},\"devices\":[{\"name\":\"d0\"},{\"name\":\"d1\"},{\"name\":\"d2\"},{\"name\":\"d3\"},{\"name\":\"d4\"},{\"name\":\"d5\"},{\"name\":\"d6\"},{\"name\":\"d7\"}]}}")) refl (quoted_digits 3 i (codes "\",\"generation\":1,\"resourceSliceCount\":1},\"devices\":[{\"name\":\"d0\"},{\"name\":\"d1\"},{\"name\":\"d2\"},{\"name\":\"d3\"},{\"name\":\"d4\"},{\"name\":\"d5\"},{\"name\":\"d6\"},{\"name\":\"d7\"}]}}") refl small (record { whole = refl; over = refl }))))));
  few = omega (arith, ap length (six_is i), length-append (codes "\"apiVersion\":\"resource.k8s.io/v1\",\"kind\":\"ResourceSlice\",\"metadata\":{\"name\":\"s") (decimal i ++ (codes "\"},\"spec\":{\"driver\":\"gpu.example.com\",\"nodeName\":\"n" ++ (decimal i ++ (codes "\",\"pool\":{\"name\":\"n" ++ (decimal i ++ (codes "\",\"generation\":1,\"resourceSliceCount\":1},\"devices\":[{\"name\":\"d0\"},{\"name\":\"d1\"},{\"name\":\"d2\"},{\"name\":\"d3\"},{\"name\":\"d4\"},{\"name\":\"d5\"},{\"name\":\"d6\"},{\"name\":\"d7\"}]}}")))))), length-append (decimal i) (codes "\"},\"spec\":{\"driver\":\"gpu.example.com\",\"nodeName\":\"n" ++ (decimal i ++ (codes "\",\"pool\":{\"name\":\"n" ++ (decimal i ++ (codes "\",\"generation\":1,\"resourceSliceCount\":1},\"devices\":[{\"name\":\"d0\"},{\"name\":\"d1\"},{\"name\":\"d2\"},{\"name\":\"d3\"},{\"name\":\"d4\"},{\"name\":\"d5\"},{\"name\":\"d6\"},{\"name\":\"d7\"}]}}"))))), length-append (codes "\"},\"spec\":{\"driver\":\"gpu.example.com\",\"nodeName\":\"n") (decimal i ++ (codes "\",\"pool\":{\"name\":\"n" ++ (decimal i ++ (codes "\",\"generation\":1,\"resourceSliceCount\":1},\"devices\":[{\"name\":\"d0\"},{\"name\":\"d1\"},{\"name\":\"d2\"},{\"name\":\"d3\"},{\"name\":\"d4\"},{\"name\":\"d5\"},{\"name\":\"d6\"},{\"name\":\"d7\"}]}}")))), length-append (decimal i) (codes "\",\"pool\":{\"name\":\"n" ++ (decimal i ++ (codes "\",\"generation\":1,\"resourceSliceCount\":1},\"devices\":[{\"name\":\"d0\"},{\"name\":\"d1\"},{\"name\":\"d2\"},{\"name\":\"d3\"},{\"name\":\"d4\"},{\"name\":\"d5\"},{\"name\":\"d6\"},{\"name\":\"d7\"}]}}"))), length-append (codes "\",\"pool\":{\"name\":\"n") (decimal i ++ (codes "\",\"generation\":1,\"resourceSliceCount\":1},\"devices\":[{\"name\":\"d0\"},{\"name\":\"d1\"},{\"name\":\"d2\"},{\"name\":\"d3\"},{\"name\":\"d4\"},{\"name\":\"d5\"},{\"name\":\"d6\"},{\"name\":\"d7\"}]}}")), length-append (decimal i) (codes "\",\"generation\":1,\"resourceSliceCount\":1},\"devices\":[{\"name\":\"d0\"},{\"name\":\"d1\"},{\"name\":\"d2\"},{\"name\":\"d3\"},{\"name\":\"d4\"},{\"name\":\"d5\"},{\"name\":\"d6\"},{\"name\":\"d7\"}]}}"), length-decimal-le 20 i (omega arith) (omega (arith, small)) small);
}

pub claim_laid : (i n : ℕ) → i < 2 ^ 64 → n < 2 ^ 64 → Laid (claim_document i n)
claim_laid i n small few = record {
  tail = codes "\"apiVersion\":\"resource.k8s.io/v1\",\"kind\":\"ResourceClaim\",\"metadata\":{\"namespace\":\"default\",\"name\":\"c" ++ (decimal i ++ (codes "\"},\"spec\":{\"devices\":{\"requests\":[{\"name\":\"gpu\",\"exactly\":{\"deviceClassName\":\"gpu\",\"count\":" ++ (decimal n ++ (codes "}}]}}}"))));
  is = ap (λ (l : List ℕ). 123 ∷ ((codes "\"apiVersion\":\"resource.k8s.io/v1\",\"kind\":\"ResourceClaim\",\"metadata\":{\"namespace\":\"default\",\"name\":\"c") ++ l)) (four (decimal i) (codes "\"},\"spec\":{\"devices\":{\"requests\":[{\"name\":\"gpu\",\"exactly\":{\"deviceClassName\":\"gpu\",\"count\":") (decimal n) (codes "}}]}}}"));
  closes = closing_on (begun) (codes "\"apiVersion\":\"resource.k8s.io/v1\",\"kind\":\"ResourceClaim\",\"metadata\":{\"namespace\":\"default\",\"name\":\"c") (decimal i ++ (codes "\"},\"spec\":{\"devices\":{\"requests\":[{\"name\":\"gpu\",\"exactly\":{\"deviceClassName\":\"gpu\",\"count\":" ++ (decimal n ++ (codes "}}]}}}")))) refl (quoted_digits 2 i (codes "\"},\"spec\":{\"devices\":{\"requests\":[{\"name\":\"gpu\",\"exactly\":{\"deviceClassName\":\"gpu\",\"count\":" ++ (decimal n ++ (codes "}}]}}}"))) refl small (closing_on (record { place = Quoted; depth = 2 }) (codes "\"},\"spec\":{\"devices\":{\"requests\":[{\"name\":\"gpu\",\"exactly\":{\"deviceClassName\":\"gpu\",\"count\":") (decimal n ++ (codes "}}]}}}")) refl (outside_digits 5 n (codes "}}]}}}") refl few (record { whole = refl; over = refl }))));
  few = omega (arith, ap length (ap (λ (l : List ℕ). 123 ∷ ((codes "\"apiVersion\":\"resource.k8s.io/v1\",\"kind\":\"ResourceClaim\",\"metadata\":{\"namespace\":\"default\",\"name\":\"c") ++ l)) (four (decimal i) (codes "\"},\"spec\":{\"devices\":{\"requests\":[{\"name\":\"gpu\",\"exactly\":{\"deviceClassName\":\"gpu\",\"count\":") (decimal n) (codes "}}]}}}"))), length-append (codes "\"apiVersion\":\"resource.k8s.io/v1\",\"kind\":\"ResourceClaim\",\"metadata\":{\"namespace\":\"default\",\"name\":\"c") (decimal i ++ (codes "\"},\"spec\":{\"devices\":{\"requests\":[{\"name\":\"gpu\",\"exactly\":{\"deviceClassName\":\"gpu\",\"count\":" ++ (decimal n ++ (codes "}}]}}}")))), length-append (decimal i) (codes "\"},\"spec\":{\"devices\":{\"requests\":[{\"name\":\"gpu\",\"exactly\":{\"deviceClassName\":\"gpu\",\"count\":" ++ (decimal n ++ (codes "}}]}}}"))), length-append (codes "\"},\"spec\":{\"devices\":{\"requests\":[{\"name\":\"gpu\",\"exactly\":{\"deviceClassName\":\"gpu\",\"count\":") (decimal n ++ (codes "}}]}}}")), length-append (decimal n) (codes "}}]}}}"), length-decimal-le 20 i (omega arith) (omega (arith, small)) small, length-decimal-le 20 n (omega arith) (omega (arith, few)) few);
}

pub pod_laid : (i : ℕ) → i < 2 ^ 64 → Laid (pod_document i)
pod_laid i small = record {
  tail = codes "\"apiVersion\":\"v1\",\"kind\":\"Pod\",\"metadata\":{\"namespace\":\"default\",\"name\":\"p" ++ (decimal i ++ (codes "\"},\"spec\":{\"resourceClaims\":[{\"name\":\"g\",\"resourceClaimName\":\"c" ++ (decimal i ++ (codes "\"}]}}"))));
  is = ap (λ (l : List ℕ). 123 ∷ ((codes "\"apiVersion\":\"v1\",\"kind\":\"Pod\",\"metadata\":{\"namespace\":\"default\",\"name\":\"p") ++ l)) (four (decimal i) (codes "\"},\"spec\":{\"resourceClaims\":[{\"name\":\"g\",\"resourceClaimName\":\"c") (decimal i) (codes "\"}]}}"));
  closes = closing_on (begun) (codes "\"apiVersion\":\"v1\",\"kind\":\"Pod\",\"metadata\":{\"namespace\":\"default\",\"name\":\"p") (decimal i ++ (codes "\"},\"spec\":{\"resourceClaims\":[{\"name\":\"g\",\"resourceClaimName\":\"c" ++ (decimal i ++ (codes "\"}]}}")))) refl (quoted_digits 2 i (codes "\"},\"spec\":{\"resourceClaims\":[{\"name\":\"g\",\"resourceClaimName\":\"c" ++ (decimal i ++ (codes "\"}]}}"))) refl small (closing_on (record { place = Quoted; depth = 2 }) (codes "\"},\"spec\":{\"resourceClaims\":[{\"name\":\"g\",\"resourceClaimName\":\"c") (decimal i ++ (codes "\"}]}}")) refl (quoted_digits 3 i (codes "\"}]}}") refl small (record { whole = refl; over = refl }))));
  few = omega (arith, ap length (ap (λ (l : List ℕ). 123 ∷ ((codes "\"apiVersion\":\"v1\",\"kind\":\"Pod\",\"metadata\":{\"namespace\":\"default\",\"name\":\"p") ++ l)) (four (decimal i) (codes "\"},\"spec\":{\"resourceClaims\":[{\"name\":\"g\",\"resourceClaimName\":\"c") (decimal i) (codes "\"}]}}"))), length-append (codes "\"apiVersion\":\"v1\",\"kind\":\"Pod\",\"metadata\":{\"namespace\":\"default\",\"name\":\"p") (decimal i ++ (codes "\"},\"spec\":{\"resourceClaims\":[{\"name\":\"g\",\"resourceClaimName\":\"c" ++ (decimal i ++ (codes "\"}]}}")))), length-append (decimal i) (codes "\"},\"spec\":{\"resourceClaims\":[{\"name\":\"g\",\"resourceClaimName\":\"c" ++ (decimal i ++ (codes "\"}]}}"))), length-append (codes "\"},\"spec\":{\"resourceClaims\":[{\"name\":\"g\",\"resourceClaimName\":\"c") (decimal i ++ (codes "\"}]}}")), length-append (decimal i) (codes "\"}]}}"), length-decimal-le 20 i (omega arith) (omega (arith, small)) small);
}

pub schedule_laid : (i : ℕ) → i < 2 ^ 64 → Laid (schedule_document i)
schedule_laid i small = record {
  tail = codes "\"apiVersion\":\"dra.replay/v1\",\"kind\":\"Schedule\",\"namespace\":\"default\",\"name\":\"p" ++ (decimal i ++ (codes "\"}"));
  is = refl;
  closes = closing_on (begun) (codes "\"apiVersion\":\"dra.replay/v1\",\"kind\":\"Schedule\",\"namespace\":\"default\",\"name\":\"p") (decimal i ++ (codes "\"}")) refl (quoted_digits 1 i (codes "\"}") refl small (record { whole = refl; over = refl }));
  few = omega (arith, length-append (codes "\"apiVersion\":\"dra.replay/v1\",\"kind\":\"Schedule\",\"namespace\":\"default\",\"name\":\"p") (decimal i ++ (codes "\"}")), length-append (decimal i) (codes "\"}"), length-decimal-le 20 i (omega arith) (omega (arith, small)) small);
}

pub release_laid : (i : ℕ) → i < 2 ^ 64 → Laid (release_document i)
release_laid i small = record {
  tail = codes "\"apiVersion\":\"dra.replay/v1\",\"kind\":\"Release\",\"namespace\":\"default\",\"name\":\"p" ++ (decimal i ++ (codes "\"}"));
  is = refl;
  closes = closing_on (begun) (codes "\"apiVersion\":\"dra.replay/v1\",\"kind\":\"Release\",\"namespace\":\"default\",\"name\":\"p") (decimal i ++ (codes "\"}")) refl (quoted_digits 1 i (codes "\"}") refl small (record { whole = refl; over = refl }));
  few = omega (arith, length-append (codes "\"apiVersion\":\"dra.replay/v1\",\"kind\":\"Release\",\"namespace\":\"default\",\"name\":\"p") (decimal i ++ (codes "\"}")), length-append (decimal i) (codes "\"}"), length-decimal-le 20 i (omega arith) (omega (arith, small)) small);
}
