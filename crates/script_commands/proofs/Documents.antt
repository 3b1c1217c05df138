-- Each form of a document is the print of its value.
use Rattle.std.proofs.Common.{ℕ, ◌≡◌, ◌∙◌, ◌<◌, ◌^◌, ◌++◌, List, [], ◌∷◌, Some, append_assoc, length, length-append, refl, sym, ap, arith}
use Rattle.std.specs.Fmt.{digits}
use Rattle.std.specs.Prelude.{codes, decimal}
use Rattle.std.proofs.lemmas.Fmt.{length-decimal-le}
use Rattle.json.specs.Json.{Items, Json, Members, array, item, member, no_items, no_members, number, object, string}
use Rattle.json.specs.Print.{IsNumber, escape, escape_byte, print, print_from}
use Rattle.json.specs.Tree.{json_tokens}
use Rattle.json.proofs.Printed.Decimals.{IsNumber-decimal}
use Rattle.serde_json.proofs.Numbers.{number_of-decimal}
use Rattle.serde_json.specs.Data.{unsigned}
use Rattle.serde_json.specs.Read.{number_of}
use Rattle.script_gen.specs.Documents.{class_document, claim_document, device_items, node_document, pod_document, release_document, schedule_document, slice_document}
use Rattle.script_commands.specs.Values.{claim_value, class_value, node_value, pod_value, release_value, schedule_value, slice_value}
use Rattle.script_commands.proofs.Texts.{Printed, ascii_append, decimal_ascii, decimal_plain, quoted_name}

-- ---- values, with their members in the order in which they are printed

abbrev fields : List (List ℕ × Json) → Members
fields [] = no_members
fields ((name, j) ∷ rest) = member name j (fields rest)

abbrev object_of : List (List ℕ × Json) → Json
object_of rest = object (fields rest)

abbrev items_of : List Json → Items
items_of [] = no_items
items_of (j ∷ js) = item j (items_of js)

abbrev list_of : List Json → Json
list_of js = array (items_of js)

one_number : IsNumber (codes "1")
unfolding digits
one_number = IsNumber-decimal 1 (omega arith)

one_is : number_of (codes "1") ≡ Some (unsigned 1)
unfolding digits
one_is = number_of-decimal 1 (omega arith)

four : (a b c d : List ℕ) → a ++ b ++ c ++ d ≡ a ++ (b ++ (c ++ d))
four a b c d = append_assoc (a ++ b) c d ∙ append_assoc a b (c ++ d)

eight : (a b c d e f g h : List ℕ) → a ++ b ++ c ++ d ++ e ++ f ++ g ++ h ≡ a ++ (b ++ (c ++ (d ++ (e ++ (f ++ (g ++ h))))))
eight a b c d e f g h =
    append_assoc (a ++ b ++ c ++ d ++ e ++ f) g h ∙ append_assoc (a ++ b ++ c ++ d ++ e) f (g ++ h) ∙ append_assoc (a ++ b ++ c ++ d) e (f ++ (g ++ h))
    ∙ append_assoc (a ++ b ++ c) d (e ++ (f ++ (g ++ h))) ∙ append_assoc (a ++ b) c (d ++ (e ++ (f ++ (g ++ h)))) ∙ append_assoc a b (c ++ (d ++ (e ++ (f ++ (g ++ h)))))

-- ---- the node

abbrev node_json : List ℕ → Json
node_json ds = object_of ((codes "apiVersion", string (codes "v1")) ∷ (codes "kind", string (codes "Node")) ∷ (codes "metadata", object_of ((codes "name", string (codes "n" ++ ds)) ∷ [])) ∷ [])

node_text : (ds : List ℕ) → print (json_tokens (node_json ds)) ≡ codes "{\"apiVersion\":\"v1\",\"kind\":\"Node\",\"metadata\":{\"name\":\"n" ++ ((escape ds ++ 34 ∷ []) ++ (codes "}}"))
unfolding print_from escape_byte
node_text ds = refl

node_is : (ds : List ℕ) → escape ds ≡ ds → print (json_tokens (node_json ds)) ≡ codes "{\"apiVersion\":\"v1\",\"kind\":\"Node\",\"metadata\":{\"name\":\"n" ++ (ds ++ (codes "\"}}"))
node_is ds plain = node_text ds ∙ ap (λ (l : List ℕ). codes "{\"apiVersion\":\"v1\",\"kind\":\"Node\",\"metadata\":{\"name\":\"n" ++ l) (quoted_name ds (codes "}}") plain)

pub node_printed : (i : ℕ) → i < 2 ^ 64 → Printed (node_document i) (node_value i)
node_printed i i_small = record {
  json = node_json (decimal i);
  is = sym (node_is (decimal i) (decimal_plain i i_small));
  ascii = ascii_append (decimal i) (codes "\"}}") (decimal_ascii i i_small) refl;
  few = omega (arith, length-append (decimal i) (codes "\"}}"), length-decimal-le 20 i (omega arith) (omega (arith, i_small)) i_small);
  numbers = (tt, (tt, ((tt, tt), tt)));
  shallow = omega arith;
  value = refl;
}

-- ---- the class

abbrev class_json : Json
class_json = object_of ((codes "apiVersion", string (codes "resource.k8s.io/v1")) ∷ (codes "kind", string (codes "DeviceClass")) ∷ (codes "metadata", object_of ((codes "name", string (codes "gpu")) ∷ [])) ∷ (codes "spec", object_of ([])) ∷ [])

class_text : print (json_tokens class_json) ≡ codes "{\"apiVersion\":\"resource.k8s.io/v1\",\"kind\":\"DeviceClass\",\"metadata\":{\"name\":\"gpu\"},\"spec\":{}}"
unfolding print_from escape_byte
class_text = refl

pub class_printed : Printed (class_document) (class_value)
class_printed = record {
  json = class_json;
  is = sym class_text;
  ascii = refl;
  few = omega (arith);
  numbers = (tt, (tt, ((tt, tt), (tt, tt))));
  shallow = omega arith;
  value = refl;
}

-- ---- the slice

abbrev slice_json : List ℕ → Json
slice_json ds = object_of ((codes "apiVersion", string (codes "resource.k8s.io/v1")) ∷ (codes "kind", string (codes "ResourceSlice")) ∷ (codes "metadata", object_of ((codes "name", string (codes "s" ++ ds)) ∷ [])) ∷ (codes "spec", object_of ((codes "driver", string (codes "gpu.example.com")) ∷ (codes "nodeName", string (codes "n" ++ ds)) ∷ (codes "pool", object_of ((codes "name", string (codes "n" ++ ds)) ∷ (codes "generation", number (codes "1")) ∷ (codes "resourceSliceCount", number (codes "1")) ∷ [])) ∷ (codes "devices", list_of ((object_of ((codes "name", string (codes "d0")) ∷ [])) ∷ (object_of ((codes "name", string (codes "d1")) ∷ [])) ∷ (object_of ((codes "name", string (codes "d2")) ∷ [])) ∷ (object_of ((codes "name", string (codes "d3")) ∷ [])) ∷ (object_of ((codes "name", string (codes "d4")) ∷ [])) ∷ (object_of ((codes "name", string (codes "d5")) ∷ [])) ∷ (object_of ((codes "name", string (codes "d6")) ∷ [])) ∷ (object_of ((codes "name", string (codes "d7")) ∷ [])) ∷ [])) ∷ [])) ∷ [])

slice_text : (ds : List ℕ) → print (json_tokens (slice_json ds)) ≡ codes "{\"apiVersion\":\"resource.k8s.io/v1\",\"kind\":\"ResourceSlice\",\"metadata\":{\"name\":\"s" ++ ((escape ds ++ 34 ∷ []) ++ (codes "},\"spec\":{\"driver\":\"gpu.example.com\",\"nodeName\":\"n" ++ ((escape ds ++ 34 ∷ []) ++ (codes ",\"pool\":{\"name\":\"n" ++ ((escape ds ++ 34 ∷ []) ++ (codes ",\"generation\":1,\"resourceSliceCount\":1},\"devices\":[{\"name\":\"d0\"},{\"name\":\"d1\"},{\"name\":\"d2\"},{\"name\":\"d3\"},{\"name\":\"d4\"},{\"name\":\"d5\"},{\"name\":\"d6\"},{\"name\":\"d7\"}]}}"))))))
unfolding print_from escape_byte
slice_text ds = refl

slice_is : (ds : List ℕ) → escape ds ≡ ds → print (json_tokens (slice_json ds)) ≡ codes "{\"apiVersion\":\"resource.k8s.io/v1\",\"kind\":\"ResourceSlice\",\"metadata\":{\"name\":\"s" ++ (ds ++ (codes "\"},\"spec\":{\"driver\":\"gpu.example.com\",\"nodeName\":\"n" ++ (ds ++ (codes "\",\"pool\":{\"name\":\"n" ++ (ds ++ (codes "\",\"generation\":1,\"resourceSliceCount\":1},\"devices\":[{\"name\":\"d0\"},{\"name\":\"d1\"},{\"name\":\"d2\"},{\"name\":\"d3\"},{\"name\":\"d4\"},{\"name\":\"d5\"},{\"name\":\"d6\"},{\"name\":\"d7\"}]}}"))))))
slice_is ds plain = slice_text ds ∙ ap (λ (l : List ℕ). codes "{\"apiVersion\":\"resource.k8s.io/v1\",\"kind\":\"ResourceSlice\",\"metadata\":{\"name\":\"s" ++ l) (quoted_name ds (codes "},\"spec\":{\"driver\":\"gpu.example.com\",\"nodeName\":\"n" ++ ((escape ds ++ 34 ∷ []) ++ (codes ",\"pool\":{\"name\":\"n" ++ ((escape ds ++ 34 ∷ []) ++ (codes ",\"generation\":1,\"resourceSliceCount\":1},\"devices\":[{\"name\":\"d0\"},{\"name\":\"d1\"},{\"name\":\"d2\"},{\"name\":\"d3\"},{\"name\":\"d4\"},{\"name\":\"d5\"},{\"name\":\"d6\"},{\"name\":\"d7\"}]}}"))))) plain ∙ ap (λ (l : List ℕ). ds ++ (34 ∷ l)) (ap (λ (l : List ℕ). codes "},\"spec\":{\"driver\":\"gpu.example.com\",\"nodeName\":\"n" ++ l) (quoted_name ds (codes ",\"pool\":{\"name\":\"n" ++ ((escape ds ++ 34 ∷ []) ++ (codes ",\"generation\":1,\"resourceSliceCount\":1},\"devices\":[{\"name\":\"d0\"},{\"name\":\"d1\"},{\"name\":\"d2\"},{\"name\":\"d3\"},{\"name\":\"d4\"},{\"name\":\"d5\"},{\"name\":\"d6\"},{\"name\":\"d7\"}]}}"))) plain ∙ ap (λ (l : List ℕ). ds ++ (34 ∷ l)) (ap (λ (l : List ℕ). codes ",\"pool\":{\"name\":\"n" ++ l) (quoted_name ds (codes ",\"generation\":1,\"resourceSliceCount\":1},\"devices\":[{\"name\":\"d0\"},{\"name\":\"d1\"},{\"name\":\"d2\"},{\"name\":\"d3\"},{\"name\":\"d4\"},{\"name\":\"d5\"},{\"name\":\"d6\"},{\"name\":\"d7\"}]}}") plain)))))

pub slice_printed : (i : ℕ) → i < 2 ^ 64 → Printed (slice_document i) (slice_value i)
slice_printed i i_small = record {
  json = slice_json (decimal i);
  is = ap (λ (l : List ℕ). codes "{\"apiVersion\":\"resource.k8s.io/v1\",\"kind\":\"ResourceSlice\",\"metadata\":{\"name\":\"s" ++ l) (eight (decimal i) (codes "\"},\"spec\":{\"driver\":\"gpu.example.com\",\"nodeName\":\"n") (decimal i) (codes "\",\"pool\":{\"name\":\"n") (decimal i) (codes "\",\"generation\":1,\"resourceSliceCount\":1},\"devices\":[") device_items (codes "]}}")) ∙ sym (slice_is (decimal i) (decimal_plain i i_small));
  ascii = ascii_append (((((((decimal i) ++ (codes "\"},\"spec\":{\"driver\":\"gpu.example.com\",\"nodeName\":\"n")) ++ (decimal i)) ++ (codes "\",\"pool\":{\"name\":\"n")) ++ (decimal i)) ++ (codes "\",\"generation\":1,\"resourceSliceCount\":1},\"devices\":[")) ++ device_items) (codes "]}}") (ascii_append ((((((decimal i) ++ (codes "\"},\"spec\":{\"driver\":\"gpu.example.com\",\"nodeName\":\"n")) ++ (decimal i)) ++ (codes "\",\"pool\":{\"name\":\"n")) ++ (decimal i)) ++ (codes "\",\"generation\":1,\"resourceSliceCount\":1},\"devices\":[")) device_items (ascii_append (((((decimal i) ++ (codes "\"},\"spec\":{\"driver\":\"gpu.example.com\",\"nodeName\":\"n")) ++ (decimal i)) ++ (codes "\",\"pool\":{\"name\":\"n")) ++ (decimal i)) (codes "\",\"generation\":1,\"resourceSliceCount\":1},\"devices\":[") (ascii_append ((((decimal i) ++ (codes "\"},\"spec\":{\"driver\":\"gpu.example.com\",\"nodeName\":\"n")) ++ (decimal i)) ++ (codes "\",\"pool\":{\"name\":\"n")) (decimal i) (ascii_append (((decimal i) ++ (codes "\"},\"spec\":{\"driver\":\"gpu.example.com\",\"nodeName\":\"n")) ++ (decimal i)) (codes "\",\"pool\":{\"name\":\"n") (ascii_append ((decimal i) ++ (codes "\"},\"spec\":{\"driver\":\"gpu.example.com\",\"nodeName\":\"n")) (decimal i) (ascii_append (decimal i) (codes "\"},\"spec\":{\"driver\":\"gpu.example.com\",\"nodeName\":\"n") (decimal_ascii i i_small) refl) (decimal_ascii i i_small)) refl) (decimal_ascii i i_small)) refl) refl) refl;
  few = omega (arith, ap length (ap (λ (l : List ℕ). codes "{\"apiVersion\":\"resource.k8s.io/v1\",\"kind\":\"ResourceSlice\",\"metadata\":{\"name\":\"s" ++ l) (eight (decimal i) (codes "\"},\"spec\":{\"driver\":\"gpu.example.com\",\"nodeName\":\"n") (decimal i) (codes "\",\"pool\":{\"name\":\"n") (decimal i) (codes "\",\"generation\":1,\"resourceSliceCount\":1},\"devices\":[") device_items (codes "]}}"))), length-append (decimal i) ((codes "\"},\"spec\":{\"driver\":\"gpu.example.com\",\"nodeName\":\"n") ++ ((decimal i) ++ ((codes "\",\"pool\":{\"name\":\"n") ++ ((decimal i) ++ ((codes "\",\"generation\":1,\"resourceSliceCount\":1},\"devices\":[") ++ (device_items ++ (codes "]}}"))))))), length-append (codes "\"},\"spec\":{\"driver\":\"gpu.example.com\",\"nodeName\":\"n") ((decimal i) ++ ((codes "\",\"pool\":{\"name\":\"n") ++ ((decimal i) ++ ((codes "\",\"generation\":1,\"resourceSliceCount\":1},\"devices\":[") ++ (device_items ++ (codes "]}}")))))), length-append (decimal i) ((codes "\",\"pool\":{\"name\":\"n") ++ ((decimal i) ++ ((codes "\",\"generation\":1,\"resourceSliceCount\":1},\"devices\":[") ++ (device_items ++ (codes "]}}"))))), length-append (codes "\",\"pool\":{\"name\":\"n") ((decimal i) ++ ((codes "\",\"generation\":1,\"resourceSliceCount\":1},\"devices\":[") ++ (device_items ++ (codes "]}}")))), length-append (decimal i) ((codes "\",\"generation\":1,\"resourceSliceCount\":1},\"devices\":[") ++ (device_items ++ (codes "]}}"))), length-append (codes "\",\"generation\":1,\"resourceSliceCount\":1},\"devices\":[") (device_items ++ (codes "]}}")), length-append device_items (codes "]}}"), length-decimal-le 20 i (omega arith) (omega (arith, i_small)) i_small);
  numbers = (tt, (tt, ((tt, tt), ((tt, (tt, ((tt, (one_number, (one_number, tt))), (((tt, tt), ((tt, tt), ((tt, tt), ((tt, tt), ((tt, tt), ((tt, tt), ((tt, tt), ((tt, tt), tt)))))))), tt)))), tt))));
  shallow = omega arith;
  value = rw one_is refl;
}

-- ---- the claim

abbrev claim_json : List ℕ → List ℕ → Json
claim_json ds count = object_of ((codes "apiVersion", string (codes "resource.k8s.io/v1")) ∷ (codes "kind", string (codes "ResourceClaim")) ∷ (codes "metadata", object_of ((codes "namespace", string (codes "default")) ∷ (codes "name", string (codes "c" ++ ds)) ∷ [])) ∷ (codes "spec", object_of ((codes "devices", object_of ((codes "requests", list_of ((object_of ((codes "name", string (codes "gpu")) ∷ (codes "exactly", object_of ((codes "deviceClassName", string (codes "gpu")) ∷ (codes "count", number count) ∷ [])) ∷ [])) ∷ [])) ∷ [])) ∷ [])) ∷ [])

claim_text : (ds count : List ℕ) → print (json_tokens (claim_json ds count)) ≡ codes "{\"apiVersion\":\"resource.k8s.io/v1\",\"kind\":\"ResourceClaim\",\"metadata\":{\"namespace\":\"default\",\"name\":\"c" ++ ((escape ds ++ 34 ∷ []) ++ (codes "},\"spec\":{\"devices\":{\"requests\":[{\"name\":\"gpu\",\"exactly\":{\"deviceClassName\":\"gpu\",\"count\":" ++ (count ++ (codes "}}]}}}"))))
unfolding print_from escape_byte
claim_text ds count = refl

claim_is : (ds count : List ℕ) → escape ds ≡ ds → print (json_tokens (claim_json ds count)) ≡ codes "{\"apiVersion\":\"resource.k8s.io/v1\",\"kind\":\"ResourceClaim\",\"metadata\":{\"namespace\":\"default\",\"name\":\"c" ++ (ds ++ (codes "\"},\"spec\":{\"devices\":{\"requests\":[{\"name\":\"gpu\",\"exactly\":{\"deviceClassName\":\"gpu\",\"count\":" ++ (count ++ (codes "}}]}}}"))))
claim_is ds count plain = claim_text ds count ∙ ap (λ (l : List ℕ). codes "{\"apiVersion\":\"resource.k8s.io/v1\",\"kind\":\"ResourceClaim\",\"metadata\":{\"namespace\":\"default\",\"name\":\"c" ++ l) (quoted_name ds (codes "},\"spec\":{\"devices\":{\"requests\":[{\"name\":\"gpu\",\"exactly\":{\"deviceClassName\":\"gpu\",\"count\":" ++ (count ++ (codes "}}]}}}"))) plain)

pub claim_printed : (i n : ℕ) → i < 2 ^ 64 → n < 2 ^ 64 → Printed (claim_document i n) (claim_value i n)
claim_printed i n i_small n_small = record {
  json = claim_json (decimal i) (decimal n);
  is = ap (λ (l : List ℕ). codes "{\"apiVersion\":\"resource.k8s.io/v1\",\"kind\":\"ResourceClaim\",\"metadata\":{\"namespace\":\"default\",\"name\":\"c" ++ l) (four (decimal i) (codes "\"},\"spec\":{\"devices\":{\"requests\":[{\"name\":\"gpu\",\"exactly\":{\"deviceClassName\":\"gpu\",\"count\":") (decimal n) (codes "}}]}}}")) ∙ sym (claim_is (decimal i) (decimal n) (decimal_plain i i_small));
  ascii = ascii_append (((decimal i) ++ (codes "\"},\"spec\":{\"devices\":{\"requests\":[{\"name\":\"gpu\",\"exactly\":{\"deviceClassName\":\"gpu\",\"count\":")) ++ (decimal n)) (codes "}}]}}}") (ascii_append ((decimal i) ++ (codes "\"},\"spec\":{\"devices\":{\"requests\":[{\"name\":\"gpu\",\"exactly\":{\"deviceClassName\":\"gpu\",\"count\":")) (decimal n) (ascii_append (decimal i) (codes "\"},\"spec\":{\"devices\":{\"requests\":[{\"name\":\"gpu\",\"exactly\":{\"deviceClassName\":\"gpu\",\"count\":") (decimal_ascii i i_small) refl) (decimal_ascii n n_small)) refl;
  few = omega (arith, ap length (ap (λ (l : List ℕ). codes "{\"apiVersion\":\"resource.k8s.io/v1\",\"kind\":\"ResourceClaim\",\"metadata\":{\"namespace\":\"default\",\"name\":\"c" ++ l) (four (decimal i) (codes "\"},\"spec\":{\"devices\":{\"requests\":[{\"name\":\"gpu\",\"exactly\":{\"deviceClassName\":\"gpu\",\"count\":") (decimal n) (codes "}}]}}}"))), length-append (decimal i) ((codes "\"},\"spec\":{\"devices\":{\"requests\":[{\"name\":\"gpu\",\"exactly\":{\"deviceClassName\":\"gpu\",\"count\":") ++ ((decimal n) ++ (codes "}}]}}}"))), length-append (codes "\"},\"spec\":{\"devices\":{\"requests\":[{\"name\":\"gpu\",\"exactly\":{\"deviceClassName\":\"gpu\",\"count\":") ((decimal n) ++ (codes "}}]}}}")), length-append (decimal n) (codes "}}]}}}"), length-decimal-le 20 i (omega arith) (omega (arith, i_small)) i_small, length-decimal-le 20 n (omega arith) (omega (arith, n_small)) n_small);
  numbers = (tt, (tt, ((tt, (tt, tt)), (((((tt, ((tt, (IsNumber-decimal n n_small, tt)), tt)), tt), tt), tt), tt))));
  shallow = omega arith;
  value = rw (number_of-decimal n n_small) refl;
}

-- ---- the pod

abbrev pod_json : List ℕ → Json
pod_json ds = object_of ((codes "apiVersion", string (codes "v1")) ∷ (codes "kind", string (codes "Pod")) ∷ (codes "metadata", object_of ((codes "namespace", string (codes "default")) ∷ (codes "name", string (codes "p" ++ ds)) ∷ [])) ∷ (codes "spec", object_of ((codes "resourceClaims", list_of ((object_of ((codes "name", string (codes "g")) ∷ (codes "resourceClaimName", string (codes "c" ++ ds)) ∷ [])) ∷ [])) ∷ [])) ∷ [])

pod_text : (ds : List ℕ) → print (json_tokens (pod_json ds)) ≡ codes "{\"apiVersion\":\"v1\",\"kind\":\"Pod\",\"metadata\":{\"namespace\":\"default\",\"name\":\"p" ++ ((escape ds ++ 34 ∷ []) ++ (codes "},\"spec\":{\"resourceClaims\":[{\"name\":\"g\",\"resourceClaimName\":\"c" ++ ((escape ds ++ 34 ∷ []) ++ (codes "}]}}"))))
unfolding print_from escape_byte
pod_text ds = refl

pod_is : (ds : List ℕ) → escape ds ≡ ds → print (json_tokens (pod_json ds)) ≡ codes "{\"apiVersion\":\"v1\",\"kind\":\"Pod\",\"metadata\":{\"namespace\":\"default\",\"name\":\"p" ++ (ds ++ (codes "\"},\"spec\":{\"resourceClaims\":[{\"name\":\"g\",\"resourceClaimName\":\"c" ++ (ds ++ (codes "\"}]}}"))))
pod_is ds plain = pod_text ds ∙ ap (λ (l : List ℕ). codes "{\"apiVersion\":\"v1\",\"kind\":\"Pod\",\"metadata\":{\"namespace\":\"default\",\"name\":\"p" ++ l) (quoted_name ds (codes "},\"spec\":{\"resourceClaims\":[{\"name\":\"g\",\"resourceClaimName\":\"c" ++ ((escape ds ++ 34 ∷ []) ++ (codes "}]}}"))) plain ∙ ap (λ (l : List ℕ). ds ++ (34 ∷ l)) (ap (λ (l : List ℕ). codes "},\"spec\":{\"resourceClaims\":[{\"name\":\"g\",\"resourceClaimName\":\"c" ++ l) (quoted_name ds (codes "}]}}") plain)))

pub pod_printed : (i : ℕ) → i < 2 ^ 64 → Printed (pod_document i) (pod_value i)
pod_printed i i_small = record {
  json = pod_json (decimal i);
  is = ap (λ (l : List ℕ). codes "{\"apiVersion\":\"v1\",\"kind\":\"Pod\",\"metadata\":{\"namespace\":\"default\",\"name\":\"p" ++ l) (four (decimal i) (codes "\"},\"spec\":{\"resourceClaims\":[{\"name\":\"g\",\"resourceClaimName\":\"c") (decimal i) (codes "\"}]}}")) ∙ sym (pod_is (decimal i) (decimal_plain i i_small));
  ascii = ascii_append (((decimal i) ++ (codes "\"},\"spec\":{\"resourceClaims\":[{\"name\":\"g\",\"resourceClaimName\":\"c")) ++ (decimal i)) (codes "\"}]}}") (ascii_append ((decimal i) ++ (codes "\"},\"spec\":{\"resourceClaims\":[{\"name\":\"g\",\"resourceClaimName\":\"c")) (decimal i) (ascii_append (decimal i) (codes "\"},\"spec\":{\"resourceClaims\":[{\"name\":\"g\",\"resourceClaimName\":\"c") (decimal_ascii i i_small) refl) (decimal_ascii i i_small)) refl;
  few = omega (arith, ap length (ap (λ (l : List ℕ). codes "{\"apiVersion\":\"v1\",\"kind\":\"Pod\",\"metadata\":{\"namespace\":\"default\",\"name\":\"p" ++ l) (four (decimal i) (codes "\"},\"spec\":{\"resourceClaims\":[{\"name\":\"g\",\"resourceClaimName\":\"c") (decimal i) (codes "\"}]}}"))), length-append (decimal i) ((codes "\"},\"spec\":{\"resourceClaims\":[{\"name\":\"g\",\"resourceClaimName\":\"c") ++ ((decimal i) ++ (codes "\"}]}}"))), length-append (codes "\"},\"spec\":{\"resourceClaims\":[{\"name\":\"g\",\"resourceClaimName\":\"c") ((decimal i) ++ (codes "\"}]}}")), length-append (decimal i) (codes "\"}]}}"), length-decimal-le 20 i (omega arith) (omega (arith, i_small)) i_small);
  numbers = (tt, (tt, ((tt, (tt, tt)), ((((tt, (tt, tt)), tt), tt), tt))));
  shallow = omega arith;
  value = refl;
}

-- ---- the schedule

abbrev schedule_json : List ℕ → Json
schedule_json ds = object_of ((codes "apiVersion", string (codes "dra.replay/v1")) ∷ (codes "kind", string (codes "Schedule")) ∷ (codes "namespace", string (codes "default")) ∷ (codes "name", string (codes "p" ++ ds)) ∷ [])

schedule_text : (ds : List ℕ) → print (json_tokens (schedule_json ds)) ≡ codes "{\"apiVersion\":\"dra.replay/v1\",\"kind\":\"Schedule\",\"namespace\":\"default\",\"name\":\"p" ++ ((escape ds ++ 34 ∷ []) ++ (codes "}"))
unfolding print_from escape_byte
schedule_text ds = refl

schedule_is : (ds : List ℕ) → escape ds ≡ ds → print (json_tokens (schedule_json ds)) ≡ codes "{\"apiVersion\":\"dra.replay/v1\",\"kind\":\"Schedule\",\"namespace\":\"default\",\"name\":\"p" ++ (ds ++ (codes "\"}"))
schedule_is ds plain = schedule_text ds ∙ ap (λ (l : List ℕ). codes "{\"apiVersion\":\"dra.replay/v1\",\"kind\":\"Schedule\",\"namespace\":\"default\",\"name\":\"p" ++ l) (quoted_name ds (codes "}") plain)

pub schedule_printed : (i : ℕ) → i < 2 ^ 64 → Printed (schedule_document i) (schedule_value i)
schedule_printed i i_small = record {
  json = schedule_json (decimal i);
  is = sym (schedule_is (decimal i) (decimal_plain i i_small));
  ascii = ascii_append (decimal i) (codes "\"}") (decimal_ascii i i_small) refl;
  few = omega (arith, length-append (decimal i) (codes "\"}"), length-decimal-le 20 i (omega arith) (omega (arith, i_small)) i_small);
  numbers = (tt, (tt, (tt, (tt, tt))));
  shallow = omega arith;
  value = refl;
}

-- ---- the release

abbrev release_json : List ℕ → Json
release_json ds = object_of ((codes "apiVersion", string (codes "dra.replay/v1")) ∷ (codes "kind", string (codes "Release")) ∷ (codes "namespace", string (codes "default")) ∷ (codes "name", string (codes "p" ++ ds)) ∷ [])

release_text : (ds : List ℕ) → print (json_tokens (release_json ds)) ≡ codes "{\"apiVersion\":\"dra.replay/v1\",\"kind\":\"Release\",\"namespace\":\"default\",\"name\":\"p" ++ ((escape ds ++ 34 ∷ []) ++ (codes "}"))
unfolding print_from escape_byte
release_text ds = refl

release_is : (ds : List ℕ) → escape ds ≡ ds → print (json_tokens (release_json ds)) ≡ codes "{\"apiVersion\":\"dra.replay/v1\",\"kind\":\"Release\",\"namespace\":\"default\",\"name\":\"p" ++ (ds ++ (codes "\"}"))
release_is ds plain = release_text ds ∙ ap (λ (l : List ℕ). codes "{\"apiVersion\":\"dra.replay/v1\",\"kind\":\"Release\",\"namespace\":\"default\",\"name\":\"p" ++ l) (quoted_name ds (codes "}") plain)

pub release_printed : (i : ℕ) → i < 2 ^ 64 → Printed (release_document i) (release_value i)
release_printed i i_small = record {
  json = release_json (decimal i);
  is = sym (release_is (decimal i) (decimal_plain i i_small));
  ascii = ascii_append (decimal i) (codes "\"}") (decimal_ascii i i_small) refl;
  few = omega (arith, length-append (decimal i) (codes "\"}"), length-decimal-le 20 i (omega arith) (omega (arith, i_small)) i_small);
  numbers = (tt, (tt, (tt, (tt, tt))));
  shallow = omega arith;
  value = refl;
}
