-- The operation of a path item under each HTTP method.
use Rattle.std.specs.Prelude.{ℕ, List, Option, Some, codes}
use Rattle.std.specs.Borrow.{Fml, MutBor, LendsIf}
use Rattle.openapi_documents.specs.contracts.operation.Operation as operation
use Rattle.openapi_documents.specs.contracts.path_item.PathItem as path_item
use Rattle.openapi_documents.specs.declared.http_method.Method.{Method}
use Rattle.openapi_documents.specs.declared.http_method.Method.TheVariants as methods
use Rattle.openapi_documents.specs.declared.operation.Operation.{Operation}
use Rattle.openapi_documents.specs.declared.path_item.PathItem.{PathItem, out-PathItem, roll-PathItem}

-- the name of the field of a method
abbrev pub method_word : Method → List ℕ
method_word methods.Get = codes "get"
method_word methods.Put = codes "put"
method_word methods.Post = codes "post"
method_word methods.Delete = codes "delete"
method_word methods.Options = codes "options"
method_word methods.Head = codes "head"
method_word methods.Patch = codes "patch"
method_word methods.Trace = codes "trace"

-- the operation under a method, if there is one
abbrev pub operation_under : Method → PathItem → Option Operation
operation_under methods.Get x = (out-PathItem x).get
operation_under methods.Put x = (out-PathItem x).put
operation_under methods.Post x = (out-PathItem x).post
operation_under methods.Delete x = (out-PathItem x).delete
operation_under methods.Options x = (out-PathItem x).options
operation_under methods.Head x = (out-PathItem x).head
operation_under methods.Patch x = (out-PathItem x).patch
operation_under methods.Trace x = (out-PathItem x).trace

-- the path item with a given operation under a method, and all other fields unchanged
abbrev pub with_operation : Method → PathItem → Operation → PathItem
with_operation methods.Get x o = roll-PathItem (record (out-PathItem x) { get = Some o })
with_operation methods.Put x o = roll-PathItem (record (out-PathItem x) { put = Some o })
with_operation methods.Post x o = roll-PathItem (record (out-PathItem x) { post = Some o })
with_operation methods.Delete x o = roll-PathItem (record (out-PathItem x) { delete = Some o })
with_operation methods.Options x o = roll-PathItem (record (out-PathItem x) { options = Some o })
with_operation methods.Head x o = roll-PathItem (record (out-PathItem x) { head = Some o })
with_operation methods.Patch x o = roll-PathItem (record (out-PathItem x) { patch = Some o })
with_operation methods.Trace x o = roll-PathItem (record (out-PathItem x) { trace = Some o })

-- when the mutable borrow `r` of the operation under a method ends, the path item holds the operation last written
-- through `r`, and its other fields are unchanged. at `None` the whole path item is unchanged
abbrev pub lends_operation : MutBor PathItem → Method → Option (MutBor Operation) → Fml
lends_operation m method r = LendsIf path_item.the_row operation.the_row m r (with_operation method m.now) m.now
