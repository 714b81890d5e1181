-- The words in which the proofs speak of a sheet: orders, settings, limits, words, forms, steps and faults.
pub use Rattle.sheet.specs.Form.{Due, FineOrder, OfKind, Placed, SmallNumber, SmallOrder, SmallSettings, SmallValue, Writable, about_words, bytes_of, fixed, fixed_words, head_words, kind, kind_words, lines_in, lines_of, number, number_words, order_words, orders_words, placed, settings_words, sheet_of, title_words, value, value_words}
pub use Rattle.sheet.specs.Fault.{Shown, shown, shows}
pub use Rattle.sheet.specs.Word.{all_digits, amount, closed, digits, in_word, is_digit, name, negated, negative, numeral, sorted, word_of}
pub use Rattle.sheet.specs.Steps.{Closed, Counted, Counts, Fielded, Filled, HeadFault, HeadTook, Miscounted, Missed, Overfull, Stepped, Stopped, Took, Unclosed, Uncounted, Unfit, Values, broken, many, missing, packed, refused, spoiled, swapped, unbounded, unclosed, unfit, unformed, unplaced, wrong}
pub use Rattle.sheet.specs.FirstFault.{Behind, Crowded, Fails, Fault, FirstFault, InHead, InOrder, above, behind, crowded, cut, ended, excessive, formed, in_head, in_order, misformed, parted}
pub use Rattle.settings.specs.Limits.{number_max, orders_max}
pub use Rattle.orders.specs.declared.order.Order.{Order}
pub use Rattle.settings.specs.declared.given.Settings.{Settings}
pub use Rattle.orders.specs.declared.order.Order.TheVariants.{Carry, ClientOut, Read, ReplicaOut, Tell, Write}
pub use Rattle.sheet.specs.declared.fault.SheetFault.{SheetFault}
