-- Names beside their data, as a list of pairs, and the members of an object made from them.
use Rattle.std.specs.Prelude.{ℕ, List, fold, String, string_bytes}
use Rattle.std.specs.declared.alloc.Global.{Global}
use Rattle.serde_json.specs.Data.{Data, Members, put}
use Rattle.serde_json.specs.View.{view}
use Rattle.serde_json.specs.declared.value.Value.{Value}
use Rattle.openapi_node.specs.Json.{data_of}
use Rattle.openapi_node.specs.Tree.{Tree}

-- a name as bytes, beside the data of its value
abbrev pub pair_view : String Global × Value → List ℕ × Data
pair_view p = (string_bytes p.0, view p.1)

-- the name of a member, beside the data of its node
abbrev pub pair_data : List ℕ × Tree → List ℕ × Data
pair_data m = (m.0, data_of m.1)

-- the members after the pairs are put among them, one after another
abbrev pub put_all : Members → List (List ℕ × Data) → Members
put_all ds ps = fold (λ es p. put p.0 p.1 es) ds ps
