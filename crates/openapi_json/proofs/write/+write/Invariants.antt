use Rattle.std.proofs.Common.{◌≡◌, ◌+◌, ◌*◌, ◌++◌, drop}
use Rattle.std.specs.Vec.Iter.{into_iter_items}
use Rattle.openapi_node.specs.Tree.{size_of, items_size, members_size, items_of, members_of}
use Rattle.openapi_json.specs.Writing.{AllFit, ItemsAreWhole, items_data_tokens, items_in, lent, MembersAreWhole, members_data_tokens, standing}
use Rattle.openapi_json.proofs.write.+write.Given as goal

abbrev pub decreases-write_node : goal.decreases-write_node
decreases-write_node l = 3 * size_of l.node.now

abbrev pub decreases-write_items : goal.decreases-write_items
decreases-write_items l = 3 * items_size (items_of l.items.now) + 1

abbrev pub decreases-write_members : goal.decreases-write_members
decreases-write_members l = 3 * members_size (members_of l.members.now) + 2

abbrev pub decreases-write_standing : goal.decreases-write_standing
decreases-write_standing l = 3 * members_size (members_of l.members.now) + 1

-- the tokens written so far, followed by those of the rest, are the tokens of the whole
abbrev pub invariant-write_items-loop-item : goal.invariant-write_items-loop-item
invariant-write_items-loop-item l =
    record {
      written : l.out.tokens ++ items_data_tokens (items_in l.order (items_of (drop l.item-index l.items)))
          ≡ l.initial.out.tokens ++ items_data_tokens (items_in l.order (items_of l.items));
      whole : ItemsAreWhole (items_of (drop l.item-index l.items)) → ItemsAreWhole (items_of l.items);
      before : l.out.before ≡ l.initial.out.before;
    }

abbrev pub invariant-write_members-loop-name : goal.invariant-write_members-loop-name
invariant-write_members-loop-name l =
    record {
      written : l.out.tokens ++ members_data_tokens (standing l.order (lent (into_iter_items l.name-iterator)))
          ≡ l.initial.out.tokens ++ members_data_tokens (standing l.order (lent (into_iter_items l.initial.name-iterator)));
      whole : MembersAreWhole (members_of (lent (into_iter_items l.name-iterator)))
          → MembersAreWhole (members_of (lent (into_iter_items l.initial.name-iterator)));
      before : l.out.before ≡ l.initial.out.before;
      fit : AllFit (members_size (members_of l.fn.members)) (lent (into_iter_items l.name-iterator));
    }

abbrev pub invariant-write_standing-loop-i : goal.invariant-write_standing-loop-i
invariant-write_standing-loop-i l =
    record {
      written : l.out.tokens ++ members_data_tokens (standing l.order (drop l.i l.members))
          ≡ l.initial.out.tokens ++ members_data_tokens (standing l.order l.members);
      whole : MembersAreWhole (members_of (drop l.i l.members)) → MembersAreWhole (members_of l.members);
      before : l.out.before ≡ l.initial.out.before;
    }
