-- What holds of lines and of their messages, for the proofs of crates above: the laws of `src/laws.rt`.
pub use Rattle.range_line.proofs.Files.{files_are_steps_apart}
pub use Rattle.range_line.proofs.MessageFacts.{last_messages_come_next, lines_are_in_order, messages_add_their_fixes, the_mark_is_last}
pub use Rattle.range_line.proofs.Streams.{streams_are_lawful}
