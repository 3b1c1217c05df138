-- The texts of a generated script's documents.
use Rattle.std.specs.Prelude.{ℕ, List, ◌++◌, codes, decimal}

-- the node `ni`
abbrev pub node_document : ℕ → List ℕ
node_document i = codes "{\"apiVersion\":\"v1\",\"kind\":\"Node\",\"metadata\":{\"name\":\"n" ++ decimal i ++ codes "\"}}"

-- the class `gpu`
abbrev pub class_document : List ℕ
class_document = codes "{\"apiVersion\":\"resource.k8s.io/v1\",\"kind\":\"DeviceClass\",\"metadata\":{\"name\":\"gpu\"},\"spec\":{}}"

-- the devices `d0` to `d7` of a slice
abbrev pub device_items : List ℕ
device_items =
    codes "{\"name\":\"d0\"},{\"name\":\"d1\"},{\"name\":\"d2\"},{\"name\":\"d3\"},"
    ++ codes "{\"name\":\"d4\"},{\"name\":\"d5\"},{\"name\":\"d6\"},{\"name\":\"d7\"}"

-- the slice `si` of the node `ni`, which is the whole pool `ni`, up to its devices
abbrev pub slice_head : ℕ → List ℕ
slice_head i =
    codes "{\"apiVersion\":\"resource.k8s.io/v1\",\"kind\":\"ResourceSlice\",\"metadata\":{\"name\":\"s" ++ decimal i
    ++ codes "\"},\"spec\":{\"driver\":\"gpu.example.com\",\"nodeName\":\"n" ++ decimal i
    ++ codes "\",\"pool\":{\"name\":\"n" ++ decimal i
    ++ codes "\",\"generation\":1,\"resourceSliceCount\":1},\"devices\":["

abbrev pub slice_document : ℕ → List ℕ
slice_document i = slice_head i ++ device_items ++ codes "]}}"

-- the claim `ci`, which asks for so many devices
abbrev pub claim_document : ℕ → ℕ → List ℕ
claim_document i count =
    codes "{\"apiVersion\":\"resource.k8s.io/v1\",\"kind\":\"ResourceClaim\",\"metadata\":{\"namespace\":\"default\",\"name\":\"c" ++ decimal i
    ++ codes "\"},\"spec\":{\"devices\":{\"requests\":[{\"name\":\"gpu\",\"exactly\":{\"deviceClassName\":\"gpu\",\"count\":" ++ decimal count
    ++ codes "}}]}}}"

-- the pod `pi`, which uses the claim `ci`
abbrev pub pod_document : ℕ → List ℕ
pod_document i =
    codes "{\"apiVersion\":\"v1\",\"kind\":\"Pod\",\"metadata\":{\"namespace\":\"default\",\"name\":\"p" ++ decimal i
    ++ codes "\"},\"spec\":{\"resourceClaims\":[{\"name\":\"g\",\"resourceClaimName\":\"c" ++ decimal i ++ codes "\"}]}}"

-- a Schedule of the pod `pi`
abbrev pub schedule_document : ℕ → List ℕ
schedule_document i =
    codes "{\"apiVersion\":\"dra.replay/v1\",\"kind\":\"Schedule\",\"namespace\":\"default\",\"name\":\"p" ++ decimal i ++ codes "\"}"

-- a Release of the pod `pi`
abbrev pub release_document : ℕ → List ℕ
release_document i =
    codes "{\"apiVersion\":\"dra.replay/v1\",\"kind\":\"Release\",\"namespace\":\"default\",\"name\":\"p" ++ decimal i ++ codes "\"}"
